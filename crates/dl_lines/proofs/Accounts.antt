-- The account of a reader: the lines that its calls have answered are those of the bytes that were taken.
use Rattle.std.proofs.Common.{◌≡◌, ℕ, ◌+◌, ◌-◌, ◌*◌, ◌<◌, List, [], ◌∷◌, ◌++◌, length, Option, None, Some, refl, sym, ap, subst, ◌∙◌, arith, append_assoc, length-append}
use Rattle.dl_lines.specs.Lines.{raw_lines, whole_lines, all_lines}
use Rattle.dl_lines.specs.Reading.{Reading, unread, Serves, IsAnswer, IsNext, Account}
use Rattle.dl_lines.specs.Laws.{unless_ended, calls_left}
use Rattle.dl_lines.specs.declared.next.Ending.{Ending}
use Rattle.dl_lines.specs.declared.next.Ending.TheVariants.{End, Limit, Fault}
use Rattle.dl_lines.specs.declared.next.Next.{Next}
use Rattle.dl_lines.specs.declared.next.Next.TheVariants.{Line, Long, Over}
use Rattle.dl_lines.specs.declared.reader.TheConstants.{MOST_BYTES}
use Rattle.dl_lines.proofs.Cuts.{raw_more, raw_front, whole_more, all_more}

serves_more : (all bytes ahead : List ℕ) (front lines : List (List ℕ)) (ended : Option Ending) → raw_lines all ≡ front ++ raw_lines bytes → Serves bytes lines ahead ended → Serves all (front ++ lines) ahead ended
serves_more all bytes ahead front lines None e h = e ∙ ap (λ l. front ++ l) h ∙ sym (append_assoc front lines (raw_lines ahead))
serves_more all bytes ahead front lines (Some End) e h = all_more all bytes front e ∙ ap (λ l. front ++ l) h
serves_more all bytes ahead front lines (Some Limit) e h = whole_more all bytes front e ∙ ap (λ l. front ++ l) h
serves_more all bytes ahead front lines (Some Fault) e h = whole_more all bytes front e ∙ ap (λ l. front ++ l) h

pub begins : (rest : Option (List ℕ)) → Account [] rest [] unread
begins rest = record {
  count = refl;
  within = omega arith;
  serves = refl;
  may_end = tt;
}

-- what an account says while the lines have not ended
known_lines : (taken : List ℕ) (rest : Option (List ℕ)) (lines : List (List ℕ)) (reading : Reading) → Account taken rest lines reading → reading.ended ≡ None → raw_lines taken ≡ lines ++ raw_lines reading.ahead
known_lines taken rest lines reading account going = subst (λ (ended : Option Ending). Serves taken lines reading.ahead ended) going account.serves

pub goes_on : (before now : Option (List ℕ)) (old new : Reading) (answer : Next) (taken : List ℕ) (lines : List (List ℕ))
    → Account taken before lines old → old.ended ≡ None → (next : IsNext before now old new answer) → Account (taken ++ next.piece) now (lines ++ next.lines) new
goes_on before now old new answer taken lines account going next =
    let known = known_lines taken before lines old account going in
    record {
      count = omega (arith, account.count, next.count, length-append taken next.piece);
      within = omega (arith, account.count, next.count, next.within, length-append taken next.piece);
      serves = serves_more (taken ++ next.piece) (old.ahead ++ next.piece) new.ahead lines next.lines new.ended (raw_more taken next.piece old.ahead lines known) next.serves;
      may_end = next.may_end;
    }

pub come_first : (taken more : List ℕ) (rest : Option (List ℕ)) (lines : List (List ℕ)) (reading : Reading) → Account taken rest lines reading → reading.ended ≡ None
    → (all_lines (taken ++ more) ≡ lines ++ all_lines (reading.ahead ++ more)) × (whole_lines (taken ++ more) ≡ lines ++ whole_lines (reading.ahead ++ more))
come_first taken more rest lines reading account going =
    let known = raw_more taken more reading.ahead lines (known_lines taken rest lines reading account going) in
    (all_more (taken ++ more) (reading.ahead ++ more) lines known, whole_more (taken ++ more) (reading.ahead ++ more) lines known)

-- a call after which the lines have not ended has answered one
one_line : (lines : List (List ℕ)) (new : Reading) (answer : Next) → new.ended ≡ None → IsAnswer lines new answer → (line : List ℕ) × (lines ≡ line ∷ [])
one_line lines new Line going is = (new.line, is.0)
one_line lines new Long going is = (is.0, is.1)
one_line lines new (Over ending) going is = absurd (cc (going, is.1))

ended_or : (ended : Option Ending) (now before : ℕ) → 0 < before → (ended ≡ None → now < before) → unless_ended ended now < before
ended_or None now before some less = less refl
ended_or (Some ending) now before some less = some

pub run_out : (before now : Option (List ℕ)) (old new : Reading) (answer : Next) → old.ended ≡ None → IsNext before now old new answer → calls_left new < calls_left old
run_out before now old new answer going next =
    let left : ℕ = 1 + length old.ahead + 2 * (MOST_BYTES - old.count) in
    subst (λ (ended : Option Ending). calls_left new < unless_ended ended left) (sym going) (ended_or new.ended _ left (omega arith) fewer)
  where
    fewer : new.ended ≡ None → 1 + length new.ahead + 2 * (MOST_BYTES - new.count) < 1 + length old.ahead + 2 * (MOST_BYTES - old.count)
    fewer still =
        let one = one_line next.lines new answer still next.answers in
        let serves : raw_lines (old.ahead ++ next.piece) ≡ next.lines ++ raw_lines new.ahead = subst (λ (ended : Option Ending). Serves (old.ahead ++ next.piece) next.lines new.ahead ended) still next.serves in
        let cut : old.ahead ++ next.piece ≡ one.0 ++ 10 ∷ new.ahead = raw_front (old.ahead ++ next.piece) one.0 new.ahead (serves ∙ ap (λ (l : List (List ℕ)). l ++ raw_lines new.ahead) one.1) in
        omega (arith, ap length cut, length-append old.ahead next.piece, length-append one.0 (10 ∷ new.ahead), next.count, next.within)
