-- What stands behind the first word of a line.
use Rattle.std.proofs.Common.{◌≡◌, ℕ, true, false, List, [], ◌∷◌, Some, refl, sym, ap, subst, ◌∙◌}
use Rattle.dl_lit.specs.declared.literal.Family.{Family}
use Rattle.dl_lit.specs.declared.literal.Family.TheVariants.{Definite, Blocking, Propagating, Support}
use Rattle.dl_lit.specs.declared.literal.Literal.{Literal}
use Rattle.dl_print.specs.Text.{family_letter}
use Rattle.dl_read.specs.Grammar.{is_blank, begins_with, has_variables, IsLiteral}
use Rattle.dl_read.specs.Tagged.{family_of}
use Rattle.dl_read.specs.Words.{in_word, word_of, past_word}
use Rattle.dl_read.proofs.Decided.{literals_are_decided}
use Rattle.dl_read.proofs.Parts.{some_is}
use Rattle.dl_read.proofs.WordLemmas.{word_found}
use Rattle.dl_read.specs.Numbers.{IsNumber}
use Rattle.dl_request.specs.Requests.{HasNoToken, IsEdition, IsInFamily, IsQuestion}
use Rattle.dl_request.specs.Reading.{IsLetter, AreNumberAndLetter}
use Rattle.dl_request.proofs.CutWords.{IsWord, past_ends, ends_words, ends_found, ends_plain, begins_words, begins_plain, spaced, number_word, number_one}

-- Letters

pub letter_word : (f : Family) → IsWord (family_letter f ∷ [])
letter_word Definite = refl
letter_word Blocking = refl
letter_word Propagating = refl
letter_word Support = refl

family_known : (f : Family) → family_of (family_letter f) ≡ Some f
family_known Definite = refl
family_known Blocking = refl
family_known Propagating = refl
family_known Support = refl

byte_is : (a b : ℕ) → ◌≡◌ {A = List ℕ} (a ∷ []) (b ∷ []) → a ≡ b
byte_is a b e = cc

pub letter_one : (word : List ℕ) (f g : Family) → IsLetter word f → IsLetter word g → g ≡ f
letter_one word f g h i =
    let e : family_letter g ≡ family_letter f = byte_is (family_letter g) (family_letter f) (sym i ∙ h) in
    some_is g f (sym (family_known g) ∙ ap family_of e ∙ family_known f)

-- A number

pub edition_words : (line : List ℕ) (n : ℕ) → IsEdition line n → IsNumber (word_of line) n × HasNoToken (past_word line)
edition_words line n h =
    let e = ends_words h.0 line (number_word h.0 n h.1) h.2 in
    (subst (λ (w : List ℕ). IsNumber w n) (sym e.0) h.1, e.1)

pub edition_found : (line : List ℕ) (n : ℕ) → IsNumber (word_of line) n → HasNoToken (past_word line) → IsEdition line n
edition_found line n h i = (word_of line, h, ends_found (word_of line) line refl i)

pub edition_one : (line : List ℕ) (m n : ℕ) → IsEdition line m → IsEdition line n → n ≡ m
edition_one line m n h i = number_one (word_of line) m n (edition_words line m h).0 (edition_words line n i).0

pub edition_plain : (line : List ℕ) (n : ℕ) → IsEdition line n → has_variables line ≡ false
edition_plain line n h = ends_plain h.0 line (number_word h.0 n h.1) h.2

pub edition_spaced : (line : List ℕ) (n : ℕ) → begins_with in_word line ≡ false → IsEdition line n → begins_with is_blank line ≡ true
edition_spaced line n e h = let w = edition_words line n h in spaced line (word_of line) e refl (number_word (word_of line) n w.0)

-- A number and a letter

pub letters_one : (line : List ℕ) (m n : ℕ) (f g : Family) (r s : List ℕ) → AreNumberAndLetter line m f r → AreNumberAndLetter line n g s → (n ≡ m) × (g ≡ f)
letters_one line m n f g r s h i = (number_one (word_of line) m n h.0 i.0, letter_one (word_of (past_word line)) f g h.1 i.1)

letter_spaced : (line : List ℕ) (n : ℕ) (f : Family) (rest : List ℕ) → AreNumberAndLetter line n f rest → begins_with is_blank (past_word line) ≡ true
letter_spaced line n f rest h = spaced (past_word line) (family_letter f ∷ []) (past_ends line) h.1 (letter_word f)

pub in_family_words : (line : List ℕ) (n : ℕ) (f : Family) → IsInFamily line n f
    → AreNumberAndLetter line n f (past_word (past_word line)) × HasNoToken (past_word (past_word line))
in_family_words line n f h =
    let a = begins_words h.0 line h.1 (number_word h.0 n h.2) h.3 in
    let b = ends_words (family_letter f ∷ []) h.1 (letter_word f) h.4 in (
      (subst (λ (w : List ℕ). IsNumber w n) (sym a.0) h.2, ap word_of a.1 ∙ b.0, refl),
      subst (λ (r : List ℕ). HasNoToken (past_word r)) (sym a.1) b.1,
    )

pub in_family_found : (line : List ℕ) (n : ℕ) (f : Family) (rest : List ℕ) → AreNumberAndLetter line n f rest → HasNoToken rest → IsInFamily line n f
in_family_found line n f rest h i = (
  word_of line,
  past_word line,
  h.0,
  word_found (word_of line) line refl (letter_spaced line n f rest h),
  ends_found (family_letter f ∷ []) (past_word line) h.1 (subst (λ (r : List ℕ). HasNoToken r) h.2 i),
)

pub in_family_one : (line : List ℕ) (m n : ℕ) (f g : Family) → IsInFamily line m f → IsInFamily line n g → (n ≡ m) × (g ≡ f)
in_family_one line m n f g h i = letters_one line m n f g _ _ (in_family_words line m f h).0 (in_family_words line n g i).0

pub in_family_plain : (line : List ℕ) (n : ℕ) (f : Family) → IsInFamily line n f → has_variables line ≡ false
in_family_plain line n f h =
    begins_plain h.0 line h.1 (number_word h.0 n h.2) h.3 ∙ ends_plain (family_letter f ∷ []) h.1 (letter_word f) h.4

pub in_family_spaced : (line : List ℕ) (n : ℕ) (f : Family) → begins_with in_word line ≡ false → IsInFamily line n f → begins_with is_blank line ≡ true
in_family_spaced line n f e h = let w = in_family_words line n f h in spaced line (word_of line) e refl (number_word (word_of line) n w.0.0)

-- A number, a letter and a literal

pub record IsQuestionAt (line : List ℕ) (n : ℕ) (f : Family) (q : Literal) (rest : List ℕ) : Type 0 where
  pub letters : AreNumberAndLetter line n f rest
  pub spaced : begins_with is_blank rest ≡ true
  pub literal : IsLiteral rest q

pub question_words : (line : List ℕ) (n : ℕ) (f : Family) (q : Literal) → IsQuestion line n f q → IsQuestionAt line n f q (past_word (past_word line))
question_words line n f q h =
    let a = begins_words h.0 line h.1 (number_word h.0 n h.3) h.4 in
    let b = begins_words (family_letter f ∷ []) h.1 h.2 (letter_word f) h.5 in
    let p : past_word (past_word line) ≡ h.2 = ap past_word a.1 ∙ b.1 in
    record {
      letters = (subst (λ (w : List ℕ). IsNumber w n) (sym a.0) h.3, ap word_of a.1 ∙ b.0, refl);
      spaced = ap (begins_with is_blank) p ∙ h.5.spaced;
      literal = subst (λ (r : List ℕ). IsLiteral r q) (sym p) h.6;
    }

pub question_found : (line : List ℕ) (n : ℕ) (f : Family) (q : Literal) (rest : List ℕ) → IsQuestionAt line n f q rest → IsQuestion line n f q
question_found line n f q rest h =
    let p : rest ≡ past_word (past_word line) = h.letters.2 in (
      word_of line,
      past_word line,
      past_word (past_word line),
      h.letters.0,
      word_found (word_of line) line refl (letter_spaced line n f rest h.letters),
      word_found (family_letter f ∷ []) (past_word line) h.letters.1 (ap (begins_with is_blank) (sym p) ∙ h.spaced),
      subst (λ (r : List ℕ). IsLiteral r q) p h.literal,
    )

pub question_one : (line : List ℕ) (m n : ℕ) (f g : Family) (p q : Literal) → IsQuestion line m f p → IsQuestion line n g q → (n ≡ m) × (g ≡ f) × (q ≡ p)
question_one line m n f g p q h i =
    let a = question_words line m f p h in
    let b = question_words line n g q i in
    let two = letters_one line m n f g _ _ a.letters b.letters in
    (two.0, two.1, literals_are_decided.one (past_word (past_word line)) q p b.literal a.literal)

pub question_plain : (line : List ℕ) (n : ℕ) (f : Family) (q : Literal) → IsQuestion line n f q → has_variables line ≡ false
question_plain line n f q h =
    begins_plain h.0 line h.1 (number_word h.0 n h.3) h.4 ∙ begins_plain (family_letter f ∷ []) h.1 h.2 (letter_word f) h.5 ∙ literals_are_decided.plain h.2 q h.6

pub question_spaced : (line : List ℕ) (n : ℕ) (f : Family) (q : Literal) → begins_with in_word line ≡ false → IsQuestion line n f q → begins_with is_blank line ≡ true
question_spaced line n f q e h = let w = question_words line n f q h in spaced line (word_of line) e refl (number_word (word_of line) n w.letters.0)
