-- Lemmas on the lines of some bytes.
use Rattle.std.proofs.Common.{◌≡◌, ℕ, ◌<◌, ◌==◌, Bool, true, false, List, [], ◌∷◌, ◌++◌, length, refl, sym, ap, subst, ◌∙◌, arith, length-append}
use Rattle.std.specs.Prelude.{All}
use Rattle.std.specs.List.{slice_split, onto_first, join_with_byte}
use Rattle.std.proofs.lemmas.List.Elements.{All-nil, All-cons, All-head, All-tail}
use Rattle.std.proofs.lemmas.List.Splits.{slice_split-cons_yes, slice_split-cons_no, slice_split_none, slice_split_at, length-slice_split, join_with_byte-slice_split}
use Rattle.dl_lines.specs.Lines.{but_last, but_empty_end, unless_empty, raw_lines, whole_lines, all_lines}
use Rattle.dl_lines.specs.Steps.{HasNoLf}

abbrev is_lf : ℕ → Bool
is_lf b = b == 10

-- bytes behind some lines belong to the last of them
abbrev onto_last : List (List ℕ) → List ℕ → List (List ℕ)
onto_last [] more = []
onto_last (line ∷ []) more = slice_split is_lf (line ++ more)
onto_last (line ∷ next ∷ lines) more = line ∷ onto_last (next ∷ lines) more

onto_last-cons : (line : List ℕ) (lines : List (List ℕ)) (more : List ℕ) → 0 < length lines → onto_last (line ∷ lines) more ≡ line ∷ onto_last lines more
onto_last-cons line [] more some = absurd (omega arith)
onto_last-cons line (next ∷ lines) more some = refl

onto_last-append : (front lines : List (List ℕ)) (more : List ℕ) → 0 < length lines → onto_last (front ++ lines) more ≡ front ++ onto_last lines more
onto_last-append [] lines more some = refl
onto_last-append (line ∷ front) lines more some =
    onto_last-cons line (front ++ lines) more (omega (arith, length-append front lines)) ∙ ap (λ l. line ∷ l) (onto_last-append front lines more some)

onto_last-first : (b : ℕ) (lines : List (List ℕ)) (more : List ℕ) → 0 < length lines → is_lf b ≡ false → onto_last (onto_first b lines) more ≡ onto_first b (onto_last lines more)
onto_last-first b [] more some e = absurd (omega arith)
onto_last-first b (line ∷ []) more some e = slice_split-cons_no is_lf b (line ++ more) e
onto_last-first b (line ∷ next ∷ lines) more some e = refl

some_lines : (bytes : List ℕ) → 0 < length (slice_split is_lf bytes)
some_lines bytes = omega (arith, length-slice_split is_lf bytes)

split_append : (bytes more : List ℕ) → slice_split is_lf (bytes ++ more) ≡ onto_last (slice_split is_lf bytes) more
split_append [] more = refl
split_append (b ∷ bytes) more = by (is_lf b) refl (split_append bytes more)
  where
    by : (v : Bool) → is_lf b ≡ v → slice_split is_lf (bytes ++ more) ≡ onto_last (slice_split is_lf bytes) more
        → slice_split is_lf (b ∷ (bytes ++ more)) ≡ onto_last (slice_split is_lf (b ∷ bytes)) more
    by true e h =
        slice_split-cons_yes is_lf b (bytes ++ more) e ∙ ap (λ l. [] ∷ l) h ∙ sym (onto_last-cons [] (slice_split is_lf bytes) more (some_lines bytes))
        ∙ sym (ap (λ l. onto_last l more) (slice_split-cons_yes is_lf b bytes e))
    by false e h =
        slice_split-cons_no is_lf b (bytes ++ more) e ∙ ap (onto_first b) h ∙ sym (onto_last-first b (slice_split is_lf bytes) more (some_lines bytes) e)
        ∙ sym (ap (λ l. onto_last l more) (slice_split-cons_no is_lf b bytes e))

-- where some lines are known and others stand ahead, bytes that come behind stand ahead too
pub raw_more : (bytes more ahead : List ℕ) (lines : List (List ℕ)) → raw_lines bytes ≡ lines ++ raw_lines ahead → raw_lines (bytes ++ more) ≡ lines ++ raw_lines (ahead ++ more)
unfolding raw_lines
raw_more bytes more ahead lines e =
    split_append bytes more ∙ ap (λ l. onto_last l more) e ∙ onto_last-append lines (slice_split is_lf ahead) more (some_lines ahead)
    ∙ ap (λ l. lines ++ l) (sym (split_append ahead more))

pub raw_one : (bytes : List ℕ) → HasNoLf bytes → raw_lines bytes ≡ bytes ∷ []
unfolding raw_lines
raw_one bytes h = slice_split_none is_lf bytes h

pub raw_cut : (front more : List ℕ) → HasNoLf front → raw_lines (front ++ 10 ∷ more) ≡ front ∷ raw_lines more
unfolding raw_lines
raw_cut front more h = slice_split_at is_lf front 10 more h refl

pub raw_some : (bytes : List ℕ) → 0 < length (raw_lines bytes)
unfolding raw_lines
raw_some bytes = some_lines bytes

pub raw_joined : (bytes : List ℕ) → join_with_byte 10 (raw_lines bytes) ≡ bytes
unfolding raw_lines
raw_joined bytes = join_with_byte-slice_split 10 bytes

joined_cons : (line : List ℕ) (lines : List (List ℕ)) → 0 < length lines → join_with_byte 10 (line ∷ lines) ≡ line ++ 10 ∷ join_with_byte 10 lines
joined_cons line [] some = absurd (omega arith)
joined_cons line (next ∷ lines) some = refl

-- bytes are their first line, its LF and the rest
pub raw_front : (bytes line ahead : List ℕ) → raw_lines bytes ≡ line ∷ raw_lines ahead → bytes ≡ line ++ 10 ∷ ahead
raw_front bytes line ahead e =
    sym (raw_joined bytes) ∙ ap (join_with_byte 10) e ∙ joined_cons line (raw_lines ahead) (raw_some ahead) ∙ ap (λ (l : List ℕ). line ++ 10 ∷ l) (raw_joined ahead)

clear_onto_first : (b : ℕ) (lines : List (List ℕ)) → is_lf b ≡ false → All HasNoLf lines → All HasNoLf (onto_first b lines)
clear_onto_first b [] e h = All-cons HasNoLf (b ∷ []) [] (All-cons (λ x. is_lf x ≡ false) b [] e (All-nil (λ x. is_lf x ≡ false))) (All-nil HasNoLf)
clear_onto_first b (line ∷ lines) e h =
    All-cons HasNoLf (b ∷ line) lines (All-cons (λ x. is_lf x ≡ false) b line e (All-head HasNoLf line lines h)) (All-tail HasNoLf line lines h)

split_clear : (bytes : List ℕ) → All HasNoLf (slice_split is_lf bytes)
split_clear [] = All-cons HasNoLf [] [] (All-nil (λ x. is_lf x ≡ false)) (All-nil HasNoLf)
split_clear (b ∷ bytes) = by (is_lf b) refl (split_clear bytes)
  where
    by : (v : Bool) → is_lf b ≡ v → All HasNoLf (slice_split is_lf bytes) → All HasNoLf (slice_split is_lf (b ∷ bytes))
    by true e h = subst (λ (l : List (List ℕ)). All HasNoLf l) (sym (slice_split-cons_yes is_lf b bytes e)) (All-cons HasNoLf [] (slice_split is_lf bytes) (All-nil (λ x. is_lf x ≡ false)) h)
    by false e h = subst (λ (l : List (List ℕ)). All HasNoLf l) (sym (slice_split-cons_no is_lf b bytes e)) (clear_onto_first b (slice_split is_lf bytes) e h)

pub raw_clear : (bytes : List ℕ) → All HasNoLf (raw_lines bytes)
unfolding raw_lines
raw_clear bytes = split_clear bytes

but_last-append : (front lines : List (List ℕ)) → 0 < length lines → but_last (front ++ lines) ≡ front ++ but_last lines
but_last-append [] lines some = refl
but_last-append (line ∷ front) lines some = cons (front ++ lines) (omega (arith, length-append front lines)) ∙ ap (λ l. line ∷ l) (but_last-append front lines some)
  where
    cons : (rest : List (List ℕ)) → 0 < length rest → but_last (line ∷ rest) ≡ line ∷ but_last rest
    cons [] more = absurd (omega arith)
    cons (next ∷ rest) more = refl

but_empty_end-append : (front lines : List (List ℕ)) → 0 < length lines → but_empty_end (front ++ lines) ≡ front ++ but_empty_end lines
but_empty_end-append [] lines some = refl
but_empty_end-append (line ∷ front) lines some = cons (front ++ lines) (omega (arith, length-append front lines)) ∙ ap (λ l. line ∷ l) (but_empty_end-append front lines some)
  where
    cons : (rest : List (List ℕ)) → 0 < length rest → but_empty_end (line ∷ rest) ≡ line ∷ but_empty_end rest
    cons [] more = absurd (omega arith)
    cons (next ∷ rest) more = refl

-- lines that are known stay in front of the whole lines of what stands ahead, and of all its lines
pub whole_more : (bytes ahead : List ℕ) (lines : List (List ℕ)) → raw_lines bytes ≡ lines ++ raw_lines ahead → whole_lines bytes ≡ lines ++ whole_lines ahead
unfolding whole_lines
whole_more bytes ahead lines e = ap but_last e ∙ but_last-append lines (raw_lines ahead) (raw_some ahead)

pub all_more : (bytes ahead : List ℕ) (lines : List (List ℕ)) → raw_lines bytes ≡ lines ++ raw_lines ahead → all_lines bytes ≡ lines ++ all_lines ahead
unfolding all_lines
all_more bytes ahead lines e = ap but_empty_end e ∙ but_empty_end-append lines (raw_lines ahead) (raw_some ahead)

-- bytes without LF have no whole line, and all in all one, unless they are none
pub whole_none : (bytes : List ℕ) → HasNoLf bytes → whole_lines bytes ≡ []
unfolding whole_lines
whole_none bytes h = ap but_last (raw_one bytes h)

pub all_one : (bytes : List ℕ) → HasNoLf bytes → all_lines bytes ≡ unless_empty bytes
unfolding all_lines
all_one bytes h = ap but_empty_end (raw_one bytes h)

pub one_unless_empty : (bytes : List ℕ) → 0 < length bytes → unless_empty bytes ≡ bytes ∷ []
one_unless_empty [] some = absurd (omega arith)
one_unless_empty (b ∷ bytes) some = refl
