-- Of each line it is decided what it asks for.
use Rattle.std.proofs.Common.{◌≡◌, ◌⊎◌, ℕ, zero, suc, ◌^◌, ◌<◌, Bool, true, false, List, [], ◌∷◌, decimal, refl, ap, ◌∙◌, inl, inr, arith}
use Rattle.std.specs.Prelude.{codes}
use Rattle.std.proofs.lemmas.Bool.{cases_lt}
use Rattle.dl_lit.specs.declared.literal.Family.{Family}
use Rattle.dl_lit.specs.declared.literal.Family.TheVariants.{Definite, Blocking, Propagating, Support}
use Rattle.dl_lit.specs.declared.literal.Literal.{Literal}
use Rattle.dl_theory.specs.declared.edit.Edit.{Edit}
use Rattle.dl_read.specs.Grammar.{is_blank, begins_with, has_variables}
use Rattle.dl_read.specs.Words.{word_of, past_word}
use Rattle.dl_read.specs.EditLines.{IsEditLine}
use Rattle.dl_read.proofs.Decided.{same_bytes, literals_are_decided, edits_are_decided}
use Rattle.dl_read.specs.Numbers.{IsNumber}
use Rattle.dl_request.specs.declared.keyword.Keyword.{Keyword}
use Rattle.dl_request.specs.declared.keyword.Keyword.TheVariants as word
use Rattle.dl_request.specs.declared.request.Request.TheVariants as request
use Rattle.dl_request.specs.declared.request.Asked.{Asked}
use Rattle.dl_request.specs.declared.request.Asked.TheVariants as asked
use Rattle.dl_request.specs.Requests.{HasNoToken, IsEdition, IsInFamily, IsQuestion}
use Rattle.dl_request.specs.Reading.{spelled, IsLetter, AreNumberAndLetter, Behind}
use Rattle.dl_request.proofs.CutWords.{clash, spent_word, word_spent}
use Rattle.dl_request.proofs.FirstWords.{edition_words, edition_found, in_family_words, in_family_found, question_words, question_found}
use Rattle.dl_request.proofs.Asking.{MeansOnly, variables_only, nothing_only, edit_only, key_only, key_outside, outside_only}

-- one is, or none is
abbrev Either : {A : Type 0} → (A → Type 0) → Type 0
Either {A} P = ((x : A) × P x) ⊎ ((x : A) → P x → ⊥)

-- Words

-- the number that a word is, if that is below k
record IsBelow (word : List ℕ) (k n : ℕ) : Type 0 where
  below : n < k
  digits : word ≡ decimal n

below_either : (word : List ℕ) (k : ℕ) → Either (IsBelow word k)
below_either word zero = inr (λ n h. omega (arith, h.below))
below_either word (suc k) =
    elim (below_either word k) [
      | inl h ↦ inl (h.0, record { below = omega (arith, h.1.below); digits = h.1.digits })
      | inr none ↦ elim (same_bytes word (decimal k)) [
        | inl e ↦ inl (k, record { below = omega arith; digits = e })
        | inr other ↦ inr (λ n h. elim (cases_lt n k) [
          | inl less ↦ none n (record { below = less; digits = h.digits })
          | inr more ↦ (let e : n ≡ k = omega (arith, h.below, more) in other (h.digits ∙ ap decimal e))
        ])
      ]
    ]

number_either : (word : List ℕ) → Either (IsNumber word)
number_either word =
    elim (below_either word (10 ^ 19)) [
      | inl h ↦ inl (h.0, record { digits = h.1.digits; short = h.1.below })
      | inr none ↦ inr (λ n h. none n (record { below = h.short; digits = h.digits }))
    ]

no_letter : (word : List ℕ) → (IsLetter word Definite → ⊥) → (IsLetter word Blocking → ⊥) → (IsLetter word Propagating → ⊥) → (IsLetter word Support → ⊥)
    → (f : Family) → IsLetter word f → ⊥
no_letter word p q r s Definite h = p h
no_letter word p q r s Blocking h = q h
no_letter word p q r s Propagating h = r h
no_letter word p q r s Support h = s h

letter_either : (word : List ℕ) → Either (IsLetter word)
letter_either word =
    elim (same_bytes word (68 ∷ [])) [
      | inl e ↦ inl (Definite, e)
      | inr p ↦ elim (same_bytes word (100 ∷ [])) [
        | inl e ↦ inl (Blocking, e)
        | inr q ↦ elim (same_bytes word (97 ∷ [])) [
          | inl e ↦ inl (Propagating, e)
          | inr r ↦ elim (same_bytes word (115 ∷ [])) [
            | inl e ↦ inl (Support, e)
            | inr s ↦ inr (no_letter word p q r s)
          ]
        ]
      ]
    ]

-- the word is this keyword
abbrev IsKeyword : List ℕ → Keyword → Type 0
IsKeyword bytes k = bytes ≡ spelled k

no_keyword : (bytes : List ℕ) → (IsKeyword bytes word.Quit → ⊥) → (IsKeyword bytes word.Publish → ⊥) → (IsKeyword bytes word.Hold → ⊥) → (IsKeyword bytes word.Ask → ⊥)
    → (IsKeyword bytes word.Text → ⊥) → (IsKeyword bytes word.Conclusions → ⊥) → (k : Keyword) → IsKeyword bytes k → ⊥
no_keyword bytes p q r s t u word.Quit h = p h
no_keyword bytes p q r s t u word.Publish h = q h
no_keyword bytes p q r s t u word.Hold h = r h
no_keyword bytes p q r s t u word.Ask h = s h
no_keyword bytes p q r s t u word.Text h = t h
no_keyword bytes p q r s t u word.Conclusions h = u h

keyword_either : (bytes : List ℕ) → Either (IsKeyword bytes)
keyword_either bytes =
    elim (same_bytes bytes (codes "quit")) [
      | inl e ↦ inl (word.Quit, e)
      | inr p ↦ elim (same_bytes bytes (codes "publish")) [
        | inl e ↦ inl (word.Publish, e)
        | inr q ↦ elim (same_bytes bytes (codes "hold")) [
          | inl e ↦ inl (word.Hold, e)
          | inr r ↦ elim (same_bytes bytes (codes "ask")) [
            | inl e ↦ inl (word.Ask, e)
            | inr s ↦ elim (same_bytes bytes (codes "text")) [
              | inl e ↦ inl (word.Text, e)
              | inr t ↦ elim (same_bytes bytes (codes "conclusions")) [
                | inl e ↦ inl (word.Conclusions, e)
                | inr u ↦ inr (no_keyword bytes p q r s t u)
              ]
            ]
          ]
        ]
      ]
    ]

-- What stands behind the first word

no_token_either : (line : List ℕ) → HasNoToken line ⊎ (HasNoToken line → ⊥)
no_token_either line = elim (same_bytes (word_of line) []) [ inl e ↦ inl (word_spent line e) | inr other ↦ inr (λ h. other (spent_word line h)) ]

edition_either : (line : List ℕ) → Either (IsEdition line)
edition_either line =
    elim (number_either (word_of line)) [
      | inl m ↦ elim (no_token_either (past_word line)) [
        | inl t ↦ inl (m.0, edition_found line m.0 m.1 t)
        | inr some ↦ inr (λ n h. some (edition_words line n h).1)
      ]
      | inr none ↦ inr (λ n h. none n (edition_words line n h).0)
    ]

-- a number and a letter
record Letters (line : List ℕ) : Type 0 where
  number : ℕ
  family : Family
  are : AreNumberAndLetter line number family (past_word (past_word line))

letters_either : (line : List ℕ) → Letters line ⊎ ((n : ℕ) (f : Family) → AreNumberAndLetter line n f (past_word (past_word line)) → ⊥)
letters_either line =
    elim (number_either (word_of line)) [
      | inl m ↦ elim (letter_either (word_of (past_word line))) [
        | inl l ↦ inl (record { number = m.0; family = l.0; are = (m.1, l.1, refl) })
        | inr none ↦ inr (λ n f h. none f h.1)
      ]
      | inr none ↦ inr (λ n f h. none n h.0)
    ]

in_family_either : (line : List ℕ) → ((n : ℕ) × (f : Family) × IsInFamily line n f) ⊎ ((n : ℕ) (f : Family) → IsInFamily line n f → ⊥)
in_family_either line =
    elim (letters_either line) [
      | inl m ↦ elim (no_token_either (past_word (past_word line))) [
        | inl t ↦ inl (m.number, m.family, in_family_found line m.number m.family _ m.are t)
        | inr some ↦ inr (λ n f h. some (in_family_words line n f h).1)
      ]
      | inr none ↦ inr (λ n f h. none n f (in_family_words line n f h).0)
    ]

-- a question
record Question (line : List ℕ) : Type 0 where
  number : ℕ
  family : Family
  literal : Literal
  is : IsQuestion line number family literal

-- where a number and a letter stand, by whether a blank follows
question_behind : (line : List ℕ) → Letters line → (v : Bool) → begins_with is_blank (past_word (past_word line)) ≡ v
    → Question line ⊎ ((n : ℕ) (f : Family) (q : Literal) → IsQuestion line n f q → ⊥)
question_behind line m false b = inr (λ n f q h. clash (begins_with is_blank (past_word (past_word line))) (question_words line n f q h).spaced b)
question_behind line m true b =
    elim (literals_are_decided.either (past_word (past_word line))) [
      | inl l ↦ inl (record {
        number = m.number;
        family = m.family;
        literal = l.0;
        is = question_found line m.number m.family l.0 _ (record { letters = m.are; spaced = b; literal = l.1 });
      })
      | inr none ↦ inr (λ n f q h. none q (question_words line n f q h).literal)
    ]

question_either : (line : List ℕ) → Question line ⊎ ((n : ℕ) (f : Family) (q : Literal) → IsQuestion line n f q → ⊥)
question_either line =
    elim (letters_either line) [
      | inl m ↦ question_behind line m (begins_with is_blank (past_word (past_word line))) refl
      | inr none ↦ inr (λ n f q h. none n f (question_words line n f q h).letters)
    ]

behind_either : (k : Keyword) (rest : List ℕ) → Either (Behind k rest)
behind_either word.Quit rest = elim (no_token_either rest) [ inl t ↦ inl (asked.Quit, (t, refl)) | inr some ↦ inr (λ x b. some b.0) ]
behind_either word.Publish rest = elim (no_token_either rest) [ inl t ↦ inl (asked.Request request.Publish, (t, refl)) | inr some ↦ inr (λ x b. some b.0) ]
behind_either word.Hold rest =
    elim (edition_either rest) [ inl m ↦ inl (asked.Request (request.Hold m.0), (m.0, m.1, refl)) | inr none ↦ inr (λ x b. none b.0 b.1) ]
behind_either word.Text rest =
    elim (edition_either rest) [ inl m ↦ inl (asked.Request (request.Text m.0), (m.0, m.1, refl)) | inr none ↦ inr (λ x b. none b.0 b.1) ]
behind_either word.Conclusions rest =
    elim (in_family_either rest) [
      | inl m ↦ inl (asked.Request (request.Conclusions m.0 m.1), (m.0, m.1, m.2, refl))
      | inr none ↦ inr (λ x b. none b.0 b.1 b.2)
    ]
behind_either word.Ask rest =
    elim (question_either rest) [
      | inl m ↦ inl (asked.Request (request.Ask m.number m.family m.literal), (m.number, m.family, m.literal, m.is, refl))
      | inr none ↦ inr (λ x b. none b.0 b.1 b.2 b.3)
    ]

-- Lines

-- what a line asks for
abbrev pub OneThing : List ℕ → Type 0
OneThing line = (x : Asked) × MeansOnly line x

by_key : (line : List ℕ) → has_variables line ≡ false → (word_of line ≡ [] → ⊥) → ((e : Edit) → IsEditLine line e → ⊥) → OneThing line
by_key line v some no_edit =
    elim (keyword_either (word_of line)) [
      | inl k ↦ elim (behind_either k.0 (past_word line)) [
        | inl b ↦ (b.0, key_only line k.0 b.0 k.1 b.1)
        | inr none ↦ (asked.Form, key_outside line k.0 v k.1 none)
      ]
      | inr none ↦ (asked.Form, outside_only line v (λ t. some (spent_word line t)) no_edit (λ k x w _. none k w))
    ]

by_edit : (line : List ℕ) → has_variables line ≡ false → (word_of line ≡ [] → ⊥) → OneThing line
by_edit line v some =
    elim (edits_are_decided.either line) [ inl e ↦ (asked.Request (request.Edit e.0), edit_only line e.0 e.1) | inr none ↦ by_key line v some none ]

by_variables : (line : List ℕ) (v : Bool) → has_variables line ≡ v → OneThing line
by_variables line true v = (asked.Variables, variables_only line v)
by_variables line false v = elim (same_bytes (word_of line) []) [ inl e ↦ (asked.Nothing, nothing_only line e) | inr some ↦ by_edit line v some ]

pub one_thing : (line : List ℕ) → OneThing line
one_thing line = by_variables line (has_variables line) refl
