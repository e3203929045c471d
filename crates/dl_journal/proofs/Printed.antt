-- What is printed tells the history and the ends.
use Rattle.std.proofs.Common.{◌≡◌, ◌∙◌, ◌+◌, ℕ, List, [], ◌∷◌, ◌++◌, refl, sym, ap, append_assoc, codes, decimal}
use Rattle.std.specs.List.{enumerate_from, flat_map}
use Rattle.dl_calls.proofs.Entries.{journal_tells}
use Rattle.dl_calls.proofs.Words.{NoDigit, tails, same_front, fronts_differ}
use Rattle.dl_session.specs.declared.end.End.{End}
use Rattle.dl_session.specs.declared.end.End.TheVariants.{Done, ReadFault, WriteFault, Spent}
use Rattle.dl_journal.specs.Journal.{end_words, end_line, ends_text, PrintedTextsTell}

-- how sessions from this number on ended
abbrev text_from : ℕ → List End → List ℕ
text_from n ends = flat_map (λ (numbered : ℕ × End). end_line numbered.0 numbered.1) (enumerate_from n ends)

-- the words of an end, before more
words_tell : (e f : End) (r s : List ℕ) → end_words e ++ (10 ∷ r) ≡ end_words f ++ (10 ∷ s) → (e ≡ f) × (r ≡ s)
words_tell Done Done r s is = (refl, tails (same_front (end_words Done) (10 ∷ r) (10 ∷ s) is))
words_tell ReadFault ReadFault r s is = (refl, tails (same_front (end_words ReadFault) (10 ∷ r) (10 ∷ s) is))
words_tell WriteFault WriteFault r s is = (refl, tails (same_front (end_words WriteFault) (10 ∷ r) (10 ∷ s) is))
words_tell Spent Spent r s is = (refl, tails (same_front (end_words Spent) (10 ∷ r) (10 ∷ s) is))
words_tell Done ReadFault r s is = fronts_differ (end_words Done) (end_words ReadFault) (10 ∷ r) (10 ∷ s) refl is
words_tell Done WriteFault r s is = fronts_differ (end_words Done) (end_words WriteFault) (10 ∷ r) (10 ∷ s) refl is
words_tell Done Spent r s is = fronts_differ (end_words Done) (end_words Spent) (10 ∷ r) (10 ∷ s) refl is
words_tell ReadFault Done r s is = fronts_differ (end_words ReadFault) (end_words Done) (10 ∷ r) (10 ∷ s) refl is
words_tell ReadFault WriteFault r s is = fronts_differ (end_words ReadFault) (end_words WriteFault) (10 ∷ r) (10 ∷ s) refl is
words_tell ReadFault Spent r s is = fronts_differ (end_words ReadFault) (end_words Spent) (10 ∷ r) (10 ∷ s) refl is
words_tell WriteFault Done r s is = fronts_differ (end_words WriteFault) (end_words Done) (10 ∷ r) (10 ∷ s) refl is
words_tell WriteFault ReadFault r s is = fronts_differ (end_words WriteFault) (end_words ReadFault) (10 ∷ r) (10 ∷ s) refl is
words_tell WriteFault Spent r s is = fronts_differ (end_words WriteFault) (end_words Spent) (10 ∷ r) (10 ∷ s) refl is
words_tell Spent Done r s is = fronts_differ (end_words Spent) (end_words Done) (10 ∷ r) (10 ∷ s) refl is
words_tell Spent ReadFault r s is = fronts_differ (end_words Spent) (end_words ReadFault) (10 ∷ r) (10 ∷ s) refl is
words_tell Spent WriteFault r s is = fronts_differ (end_words Spent) (end_words WriteFault) (10 ∷ r) (10 ∷ s) refl is

-- a line before more, from the end's words on
line_shape : (n : ℕ) (e : End) (r : List ℕ) → end_line n e ++ r ≡ (codes "session " ++ decimal n) ++ (codes " " ++ (end_words e ++ (10 ∷ r)))
line_shape n e r =
    append_assoc (codes "session " ++ decimal n) (codes " " ++ (end_words e ++ 10 ∷ [])) r
    ∙ ap (λ (l : List ℕ). (codes "session " ++ decimal n) ++ (codes " " ++ l)) (append_assoc (end_words e) (10 ∷ []) r)

line_tells : (n : ℕ) (e f : End) (r s : List ℕ) → end_line n e ++ r ≡ end_line n f ++ s → (e ≡ f) × (r ≡ s)
line_tells n e f r s is =
    words_tell e f r s
    (tails (same_front (codes "session " ++ decimal n) (codes " " ++ (end_words e ++ (10 ∷ r))) (codes " " ++ (end_words f ++ (10 ∷ s))) (sym (line_shape n e r) ∙ is ∙ line_shape n f s)))

ends_tell : (n : ℕ) (es fs : List End) → text_from n es ≡ text_from n fs → es ≡ fs
ends_tell n [] [] is = refl
ends_tell n [] (f ∷ fs) is = absurd (cc)
ends_tell n (e ∷ es) [] is = absurd (cc)
ends_tell n (e ∷ es) (f ∷ fs) is =
    let one = line_tells n e f (text_from (n + 1) es) (text_from (n + 1) fs) is in
    let more = ends_tell (n + 1) es fs one.1 in
    λ i. one.0 i ∷ more i

no_digit : (es : List End) → NoDigit (ends_text es)
no_digit [] = tt
no_digit (e ∷ es) = refl

pub printed_texts_tell : PrintedTextsTell
printed_texts_tell xs ys es fs h k is =
    let both = journal_tells xs ys (ends_text es) (ends_text fs) h k (no_digit es) (no_digit fs) is in
    (both.0, ends_tell 0 es fs both.1)
