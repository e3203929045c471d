-- Lemmas on the parts of a call.
use Rattle.std.proofs.Common.{◌≡◌, ℕ, ◌+◌, ◌≤◌, ◌<◌, ◌==◌, ◌⊎◌, Bool, true, false, List, [], ◌∷◌, ◌++◌, Option, None, Some, Err, length, take, drop, refl, sym, ap, subst, inl, inr, ◌∙◌, arith, append_assoc, append-nil, length-append, length-take-le, take_at}
use Rattle.std.specs.Io.KnownBytes.{prepend_known}
use Rattle.std.proofs.lemmas.List.Elements.{All-nil, All-append}
use Rattle.dl_lines.specs.Lines.{unless_empty, raw_lines, all_lines}
use Rattle.dl_lines.specs.Reading.{Reading, Serves, MayEnd, IsAtLine, IsAnswer, IsNext}
use Rattle.dl_lines.specs.Steps.{HasNoLf, IsCut, Grows, EndsRightly, IsDropped, Took, Forgets, IsCutAnswer, CutsOff, IsLastAnswer, Ends}
use Rattle.dl_lines.specs.declared.next.Ending.{Ending}
use Rattle.dl_lines.specs.declared.next.Ending.TheVariants.{End, Limit, Fault}
use Rattle.dl_lines.specs.declared.next.Next.{Next}
use Rattle.dl_lines.specs.declared.next.Next.TheVariants.{Line, Long, Over}
use Rattle.dl_lines.specs.declared.reader.TheConstants.{LONGEST_LINE}
use Rattle.dl_lines.proofs.Cuts.{raw_cut, whole_none, all_one, one_unless_empty}

abbrev NotLf : ℕ → Type 0
NotLf b = (b == 10) ≡ false

pub prepend_known-none : (known : Option (List ℕ)) → known ≡ prepend_known [] known
prepend_known-none None = refl
prepend_known-none (Some bytes) = refl

-- a piece was read, and then another
pub told_more : (old mid new : Option (List ℕ)) (a b : List ℕ) → old ≡ prepend_known a mid → mid ≡ prepend_known b new → old ≡ prepend_known (a ++ b) new
told_more old mid None a b before step = before ∙ ap (prepend_known a) step
told_more old mid (Some rest) a b before step = before ∙ ap (prepend_known a) step ∙ ap Some (sym (append_assoc a b rest))

-- nothing was read yet
pub took_none : (rest : Option (List ℕ)) (old : Reading) → old.ended ≡ None → Took rest rest old old false
took_none rest old going = record {
  piece = [];
  dropped = [];
  told = prepend_known-none rest;
  count = omega arith;
  going = going;
  waits = λ _. refl;
  joined = append-nil old.ahead;
  clear = All-nil NotLf;
  is_dropped = refl;
}

-- one read more
pub took_more : (before mid now : Option (List ℕ)) (old a b : Reading) (long : Bool) → HasNoLf old.ahead → Took before mid old a long → Grows mid now a b → Took before now old b long
took_more before mid now old a b long clear took grows = record {
  piece = took.piece ++ grows.piece;
  dropped = took.dropped;
  told = told_more before mid now took.piece grows.piece took.told grows.told;
  count = omega (arith, took.count, grows.count, length-append took.piece grows.piece);
  going = grows.ended ∙ took.going;
  waits = λ whole. absurd (whole (whole_none old.ahead clear));
  joined = sym (append_assoc old.ahead took.piece grows.piece) ∙ ap (λ l. l ++ grows.piece) took.joined ∙ append_assoc took.dropped a.ahead grows.piece
      ∙ ap (λ l. took.dropped ++ l) (sym grows.ahead);
  clear = took.clear;
  is_dropped = took.is_dropped;
}

drops_more : (dropped ahead : List ℕ) (long : Bool) → IsDropped dropped long → (long ≡ true) ⊎ (LONGEST_LINE < length ahead) → LONGEST_LINE < length (dropped ++ ahead)
drops_more dropped ahead true is_dropped by = omega (arith, is_dropped, length-append dropped ahead)
drops_more dropped ahead false is_dropped (inl e) = absurd (cc)
drops_more dropped ahead false is_dropped (inr past) = omega (arith, past, length-append dropped ahead)

pub took_forget : (before now : Option (List ℕ)) (old a b : Reading) (long now_long : Bool) → HasNoLf a.ahead → Took before now old a long → Forgets a b long now_long → Took before now old b now_long
took_forget before now old a b long false clear took (same, kept, short) =
    subst (λ (v : Bool). Took before now old b v) same (subst (λ (r : Reading). Took before now old r long) (sym kept) took)
took_forget before now old a b long true clear took (cause, forgets) =
    subst (λ (r : Reading). Took before now old r true) (sym forgets) (record {
      piece = took.piece;
      dropped = took.dropped ++ a.ahead;
      told = took.told;
      count = took.count;
      going = took.going;
      waits = took.waits;
      joined = took.joined ∙ sym (append-nil (took.dropped ++ a.ahead));
      clear = All-append NotLf took.dropped a.ahead took.clear clear;
      is_dropped = drops_more took.dropped a.ahead long took.is_dropped cause;
    })

-- what is ahead afterwards
pub forget_clear : (a b : Reading) (long now_long : Bool) → HasNoLf a.ahead → Forgets a b long now_long → HasNoLf b.ahead
forget_clear a b long false clear (same, kept, short) = subst (λ (r : Reading). HasNoLf r.ahead) (sym kept) clear
forget_clear a b long true clear (cause, forgets) = subst (λ (r : Reading). HasNoLf r.ahead) (sym forgets) (All-nil NotLf)

pub forget_short : (a b : Reading) (long now_long : Bool) → Forgets a b long now_long → length b.ahead ≤ LONGEST_LINE
forget_short a b long false (same, kept, short) = subst (λ (r : Reading). length r.ahead ≤ LONGEST_LINE) (sym kept) short
forget_short a b long true (cause, forgets) = subst (λ (r : Reading). length r.ahead ≤ LONGEST_LINE) (sym forgets) (omega arith)

pub forget_count : (a b : Reading) (long now_long : Bool) → Forgets a b long now_long → b.count ≡ a.count
forget_count a b long false (same, kept, short) = ap (λ (r : Reading). r.count) kept
forget_count a b long true (cause, forgets) = ap (λ (r : Reading). r.count) forgets

-- the raw lines of what was read, where an LF has come
cut_serves : (old mid : Reading) (piece dropped : List ℕ) (len : ℕ) → old.ahead ++ piece ≡ dropped ++ mid.ahead → HasNoLf dropped → IsCut mid.ahead len
    → raw_lines (old.ahead ++ piece) ≡ (dropped ++ take len mid.ahead) ∷ raw_lines (drop (len + 1) mid.ahead)
cut_serves old mid piece dropped len joined clear cut =
    ap raw_lines (joined ∙ ap (λ l. dropped ++ l) cut.lf ∙ sym (append_assoc dropped (take len mid.ahead) (10 ∷ drop (len + 1) mid.ahead)))
    ∙ raw_cut (dropped ++ take len mid.ahead) (drop (len + 1) mid.ahead) (All-append NotLf dropped (take len mid.ahead) clear cut.front)

at_line : (ended : Option Ending) → ended ≡ None → IsAtLine ended
at_line ended e = subst IsAtLine (sym e) tt

cut_answers : (mid new : Reading) (dropped : List ℕ) (len : ℕ) (long : Bool) (answer : Next) → IsDropped dropped long → len < length mid.ahead → new.ended ≡ None → new.line ≡ take len mid.ahead
    → IsCutAnswer len long answer → IsAnswer ((dropped ++ take len mid.ahead) ∷ []) new answer
cut_answers mid new dropped len true Line is_dropped within going is (short, fits) = absurd (cc)
cut_answers mid new dropped len false Line is_dropped within going is (short, fits) = (
  ap (λ (l : List ℕ). l ∷ []) (ap (λ l. l ++ take len mid.ahead) is_dropped ∙ sym is),
  omega (arith, ap length is, length-take-le len mid.ahead (omega arith)),
  at_line new.ended going,
)
cut_answers mid new dropped len long Long is_dropped within going is cause = (
  dropped ++ take len mid.ahead,
  refl,
  drops_more dropped (take len mid.ahead) long is_dropped (past cause),
  at_line new.ended going,
)
  where
    past : (long ≡ true) ⊎ (LONGEST_LINE < len) → (long ≡ true) ⊎ (LONGEST_LINE < length (take len mid.ahead))
    past (inl e) = inl e
    past (inr more) = inr (omega (arith, more, length-take-le len mid.ahead (omega arith)))
cut_answers mid new dropped len long (Over ending) is_dropped within going is never = absurd never

pub took_cut : (before now : Option (List ℕ)) (old mid new : Reading) (long : Bool) (len : ℕ) (answer : Next) → Took before now old mid long → IsCut mid.ahead len → CutsOff mid new len
    → IsCutAnswer len long answer → IsNext before now old new answer
took_cut before now old mid new long len answer took cut off is =
    let going : new.ended ≡ None = off.ended ∙ took.going in
    record {
      piece = took.piece;
      lines = (took.dropped ++ take len mid.ahead) ∷ [];
      told = took.told;
      count = off.count ∙ took.count;
      within = off.within;
      waits = took.waits;
      serves = subst (λ (ended : Option Ending). Serves (old.ahead ++ took.piece) ((took.dropped ++ take len mid.ahead) ∷ []) new.ahead ended) (sym going)
          (cut_serves old mid took.piece took.dropped len took.joined took.clear cut ∙ ap (λ (l : List ℕ). (took.dropped ++ take len mid.ahead) ∷ raw_lines l) (sym off.ahead));
      answers = cut_answers mid new took.dropped len long answer took.is_dropped cut.within going off.line is;
      may_end = subst (λ (ended : Option Ending). MayEnd now new.count ended) (sym going) tt;
    }

-- the line that is answered as the lines end, or none
abbrev last_lines : List ℕ → Next → List (List ℕ)
last_lines bytes Line = bytes ∷ []
last_lines bytes Long = bytes ∷ []
last_lines bytes (Over ending) = []

some_bytes : (bytes : List ℕ) → HasNoLf bytes → 0 < length bytes → all_lines bytes ≡ bytes ∷ []
some_bytes bytes clear some = all_one bytes clear ∙ one_unless_empty bytes some

-- a line that is not too long is all ahead
all_ahead : (bytes dropped ahead : List ℕ) (long : Bool) → IsDropped dropped long → long ≡ false → bytes ≡ dropped ++ ahead → bytes ≡ ahead
all_ahead bytes dropped ahead true is_dropped e joined = absurd (cc)
all_ahead bytes dropped ahead false is_dropped e joined = joined ∙ ap (λ l. l ++ ahead) is_dropped

long_bytes : (bytes dropped ahead : List ℕ) (long : Bool) → IsDropped dropped long → long ≡ true → bytes ≡ dropped ++ ahead → LONGEST_LINE < length bytes
long_bytes bytes dropped ahead true is_dropped e joined = omega (arith, is_dropped, ap length joined, length-append dropped ahead)
long_bytes bytes dropped ahead false is_dropped e joined = absurd (cc)

end_serves : (bytes dropped ahead line : List ℕ) (ending : Ending) (long : Bool) (answer : Next) → HasNoLf bytes → IsDropped dropped long → bytes ≡ dropped ++ ahead
    → IsLastAnswer ahead ending long line answer → Serves bytes (last_lines bytes answer) [] (Some ending)
end_serves bytes dropped ahead line End long Line clear is_dropped joined (at, short, is, some) =
    some_bytes bytes clear (omega (arith, some, ap length (all_ahead bytes dropped ahead long is_dropped short joined)))
end_serves bytes dropped ahead line End long Long clear is_dropped joined (at, past) =
    some_bytes bytes clear (omega (arith, long_bytes bytes dropped ahead long is_dropped past joined))
end_serves bytes dropped ahead line End long (Over other) clear is_dropped joined (same, none) =
    let none' = none refl in
    let empty : bytes ≡ [] = all_ahead bytes dropped ahead long is_dropped none'.0 joined ∙ none'.1 in
    all_one bytes clear ∙ ap unless_empty empty
end_serves bytes dropped ahead line Limit long Line clear is_dropped joined (at, short, is, some) = absurd (cc)
end_serves bytes dropped ahead line Limit long Long clear is_dropped joined (at, past) = absurd (cc)
end_serves bytes dropped ahead line Limit long (Over other) clear is_dropped joined is = whole_none bytes clear
end_serves bytes dropped ahead line Fault long Line clear is_dropped joined (at, short, is, some) = absurd (cc)
end_serves bytes dropped ahead line Fault long Long clear is_dropped joined (at, past) = absurd (cc)
end_serves bytes dropped ahead line Fault long (Over other) clear is_dropped joined is = whole_none bytes clear

at_last : (ended : Option Ending) (ending : Ending) → ended ≡ Some ending → ending ≡ End → IsAtLine ended
at_last ended ending e end = subst IsAtLine (sym (e ∙ ap Some end)) tt

end_answers : (bytes dropped ahead : List ℕ) (new : Reading) (ending : Ending) (long : Bool) (answer : Next) → IsDropped dropped long → bytes ≡ dropped ++ ahead → length ahead ≤ LONGEST_LINE
    → new.ended ≡ Some ending → IsLastAnswer ahead ending long new.line answer → IsAnswer (last_lines bytes answer) new answer
end_answers bytes dropped ahead new ending long Line is_dropped joined fits ended (at, short, is, some) = (
  ap (λ (l : List ℕ). l ∷ []) (all_ahead bytes dropped ahead long is_dropped short joined ∙ sym is),
  omega (arith, fits, ap length is),
  at_last new.ended ending ended at,
)
end_answers bytes dropped ahead new ending long Long is_dropped joined fits ended (at, past) = (
  bytes,
  refl,
  long_bytes bytes dropped ahead long is_dropped past joined,
  at_last new.ended ending ended at,
)
end_answers bytes dropped ahead new ending long (Over other) is_dropped joined fits ended (same, none) = (refl, ended ∙ ap Some (sym same))

pub took_end : (before now : Option (List ℕ)) (old mid new : Reading) (ending : Ending) (long : Bool) (answer : Next) → Took before now old mid long → HasNoLf mid.ahead → length mid.ahead ≤ LONGEST_LINE
    → MayEnd now mid.count (Some ending) → Ends mid new ending long answer → IsNext before now old new answer
took_end before now old mid new ending long answer took clear fits may_end ends =
    let bytes : List ℕ = old.ahead ++ took.piece in
    let clear_bytes : HasNoLf bytes = subst HasNoLf (sym took.joined) (All-append NotLf took.dropped mid.ahead took.clear clear) in
    record {
      piece = took.piece;
      lines = last_lines bytes answer;
      told = took.told;
      count = ends.count ∙ took.count;
      within = ends.within;
      waits = took.waits;
      serves = subst (λ (ended : Option Ending). Serves bytes (last_lines bytes answer) new.ahead ended) (sym ends.ended)
          (subst (λ (ahead : List ℕ). Serves bytes (last_lines bytes answer) ahead (Some ending)) (sym ends.ahead)
          (end_serves bytes took.dropped mid.ahead new.line ending long answer clear_bytes took.is_dropped took.joined ends.answers));
      answers = end_answers bytes took.dropped mid.ahead new ending long answer took.is_dropped took.joined fits ends.ended ends.answers;
      may_end = subst (λ (ended : Option Ending). MayEnd now new.count ended) (sym ends.ended)
          (subst (λ (count : ℕ). MayEnd now count (Some ending)) (sym ends.count) may_end);
    }

-- The bytes that were ahead before a read have no LF.
pub round_held : (mid now : Option (List ℕ)) (a b c : Reading) (long now_long : Bool) (held : ℕ) → HasNoLf a.ahead → Forgets a b long now_long → Grows mid now b c → held ≡ length b.ahead → HasNoLf (take held c.ahead)
round_held mid now a b c long now_long held clear forgets grows count =
    subst HasNoLf (sym (ap (take held) grows.ahead ∙ take_at b.ahead grows.piece held (sym count))) (forget_clear a b long now_long clear forgets)

-- A round of the loop forgets what is too long and reads once. Either the lines end ..
pub round_ends : (before mid now : Option (List ℕ)) (old a b c new : Reading) (long now_long : Bool) (ending : Ending) (answer : Next) → HasNoLf old.ahead → Took before mid old a long → HasNoLf a.ahead
    → Forgets a b long now_long → Grows mid now b c → EndsRightly mid now b c (Err ending) → Ends c new ending now_long answer → IsNext before now old new answer
round_ends before mid now old a b c new long now_long ending answer clear_old took clear forgets grows rightly ends =
    took_end before now old c new ending now_long answer
    (took_more before mid now old b c now_long clear_old (took_forget before mid old a b long now_long clear took forgets) grows)
    (subst HasNoLf (sym rightly.2) (forget_clear a b long now_long clear forgets))
    (subst (λ (l : List ℕ). length l ≤ LONGEST_LINE) (sym rightly.2) (forget_short a b long now_long forgets))
    rightly.3 ends

-- .. or an LF has come ..
pub round_cuts : (before mid now : Option (List ℕ)) (old a b c new : Reading) (long now_long : Bool) (len : ℕ) (answer : Next) → HasNoLf old.ahead → Took before mid old a long → HasNoLf a.ahead
    → Forgets a b long now_long → Grows mid now b c → IsCut c.ahead len → CutsOff c new len → IsCutAnswer len now_long answer → IsNext before now old new answer
round_cuts before mid now old a b c new long now_long len answer clear_old took clear forgets grows cut off is =
    took_cut before now old c new now_long len answer (took_more before mid now old b c now_long clear_old (took_forget before mid old a b long now_long clear took forgets) grows) cut off is

-- .. or there is more to read.
pub round_goes_on : (before mid now : Option (List ℕ)) (old a b c : Reading) (long now_long : Bool) → HasNoLf old.ahead → Took before mid old a long → HasNoLf a.ahead
    → Forgets a b long now_long → Grows mid now b c → Took before now old c now_long
round_goes_on before mid now old a b c long now_long clear_old took clear forgets grows =
    took_more before mid now old b c now_long clear_old (took_forget before mid old a b long now_long clear took forgets) grows
