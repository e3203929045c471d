-- Of each line it is decided what it says.
use Rattle.std.proofs.Common.{◌≡◌, ◌⊎◌, ℕ, Bool, true, false, List, [], ◌∷◌, drop, get_or, Option, Some, None, refl, sym, ap, ◌∙◌, inl, inr}
use Rattle.std.specs.Prelude.{codes}
use Rattle.std.proofs.lemmas.Bool.{cases_eq}
use Rattle.dl_theory.specs.declared.edit.Edit.{Edit}
use Rattle.dl_read.specs.declared.token.Token.{Token}
use Rattle.dl_read.specs.declared.statement.Statement.{Statement}
use Rattle.dl_read.specs.Grammar.{is_blank, begins_with, has_variables, IsLiteral, Says, IsDecided}
use Rattle.dl_read.specs.Words.{word_of, past_word}
use Rattle.dl_read.specs.EditLines.{added, Adds, Drops, IsEditLine}
use Rattle.dl_read.specs.Tokens.{tokens}
use Rattle.dl_read.specs.Parsing.{Parse, head_at, statement_at, dropped_at}
use Rattle.dl_read.proofs.Parts.{some_is}
use Rattle.dl_read.proofs.Lines.{statement_sound, statement_complete, literal_sound, literal_complete}
use Rattle.dl_read.proofs.Dropped.{dropped_sound, dropped_complete}
use Rattle.dl_read.proofs.WordLemmas.{word_found, word_variables}
use Rattle.dl_read.proofs.EditReading.{begins_add, begins_drop, behind_add, behind_drop, no_word, no_space}
use Rattle.dl_read.proofs.Unique.{spelled_plain, says_one}

-- the line says something, or nothing
abbrev Either : {A : Type 0} → (List ℕ → A → Type 0) → List ℕ → Type 0
Either {A} Means line = ((x : A) × Means line x) ⊎ ((x : A) → Means line x → ⊥)

-- a parse that is sound and complete decides, and gives one thing

by_parse : {A : Type 0} (Means : List ℕ → A → Type 0) (line : List ℕ) (parse : Parse A) → ((x : A) (r : List Token) → parse ≡ Some (x, r) → Means line x)
    → ((y : A) → Means line y → parse ≡ Some (y, [])) → Either Means line
by_parse Means line (Some p) sound complete = inl (p.0, sound p.0 p.1 refl)
by_parse {A} Means line None sound complete = inr (λ y m. (let e : ◌≡◌ {A = Option (A × List Token)} None (Some (y, [])) = complete y m in cc))

one_parse : {A : Type 0} (parse : Parse A) (x y : A) → parse ≡ Some (x, []) → parse ≡ Some (y, []) → x ≡ y
one_parse {A} parse x y h i = ap (λ (p : A × List Token). p.0) (some_is {A = A × List Token} (x, []) (y, []) (sym h ∙ i))

pub literals_are_decided : IsDecided IsLiteral
literals_are_decided = record {
  either = λ line. by_parse IsLiteral line (head_at None (tokens line)) (literal_sound line) (literal_complete line);
  one = λ line x y h i. one_parse (head_at None (tokens line)) x y (literal_complete line x h) (literal_complete line y i);
  plain = λ line x h. spelled_plain h.0 line h.1;
}

-- what stands behind `drop`

drops_either : (line : List ℕ) → Either Drops line
drops_either line = by_parse Drops line (dropped_at (tokens line)) (dropped_sound line) (dropped_complete line)

drops_one : (line : List ℕ) (x y : Edit) → Drops line x → Drops line y → x ≡ y
drops_one line x y h i = one_parse (dropped_at (tokens line)) x y (dropped_complete line x h) (dropped_complete line y i)

-- what stands behind `add`

adds_by : (line : List ℕ) (s : Statement) → Says line s → (o : Option Edit) → added s ≡ o → Either Adds line
adds_by line s h (Some e) i = inl (e, (s, h, i))
adds_by line s h None i =
    inr (λ e m. (let f : ◌≡◌ {A = Option Edit} None (Some e) = sym i ∙ ap added (says_one line m.0 s m.1 h) ∙ m.2 in cc))

adds_either : (line : List ℕ) → Either Adds line
adds_either line =
    elim (by_parse Says line (statement_at (tokens line)) (statement_sound line) (statement_complete line)) [
      | inl s ↦ adds_by line s.0 s.1 (added s.0) refl
      | inr none ↦ inr (λ e m. none m.0 m.1)
    ]

adds_one : (line : List ℕ) (x y : Edit) → Adds line x → Adds line y → x ≡ y
adds_one line x y h i = some_is x y (sym h.2 ∙ ap added (says_one line i.0 h.0 i.1 h.1) ∙ i.2)

-- the first word decides

pub same_bytes : (xs ys : List ℕ) → (xs ≡ ys) ⊎ (xs ≡ ys → ⊥)
same_bytes [] [] = inl refl
same_bytes [] (y ∷ ys) = inr (λ e. cc)
same_bytes (x ∷ xs) [] = inr (λ e. cc)
same_bytes (x ∷ xs) (y ∷ ys) =
    elim (cases_eq x y) [
      | inl first ↦ elim (same_bytes xs ys) [
        | inl rest ↦ inl (λ i. first i ∷ rest i)
        | inr other ↦ inr (λ e. other (ap (drop 1) e))
      ]
      | inr other ↦ inr (λ e. other (ap (λ (l : List ℕ). get_or l 0 0) e))
    ]

by_add : (line : List ℕ) → word_of line ≡ codes "add" → begins_with is_blank (past_word line) ≡ true → Either IsEditLine line
by_add line w b =
    elim (adds_either (past_word line)) [
      | inl m ↦ inl (m.0, inl (past_word line, word_found (codes "add") line w b, m.1))
      | inr none ↦ inr (λ e n. none e (behind_add line w e n))
    ]

by_drop : (line : List ℕ) → word_of line ≡ codes "drop" → begins_with is_blank (past_word line) ≡ true → Either IsEditLine line
by_drop line w b =
    elim (drops_either (past_word line)) [
      | inl m ↦ inl (m.0, inr (past_word line, word_found (codes "drop") line w b, m.1))
      | inr none ↦ inr (λ e n. none e (behind_drop line w e n))
    ]

by_space : (line : List ℕ) (spaced : Bool) → begins_with is_blank (past_word line) ≡ spaced → Either IsEditLine line
by_space line false b = inr (no_space line b)
by_space line true b =
    elim (same_bytes (word_of line) (codes "add")) [
      | inl w ↦ by_add line w b
      | inr not_add ↦ elim (same_bytes (word_of line) (codes "drop")) [
        | inl w ↦ by_drop line w b
        | inr not_drop ↦ inr (no_word line not_add not_drop)
      ]
    ]

edit_one : (line : List ℕ) (x y : Edit) → IsEditLine line x → IsEditLine line y → x ≡ y
edit_one line x y (inl a) i = let w = (begins_add line a.0 a.1).0 in adds_one (past_word line) x y (behind_add line w x (inl a)) (behind_add line w y i)
edit_one line x y (inr d) i = let w = (begins_drop line d.0 d.1).0 in drops_one (past_word line) x y (behind_drop line w x (inr d)) (behind_drop line w y i)

edit_plain : (line : List ℕ) (x : Edit) → IsEditLine line x → has_variables line ≡ false
edit_plain line x h =
    elim h [
      | inl a ↦ word_variables (codes "add") line a.0 refl a.1 ∙ spelled_plain a.2.1.0 a.0 a.2.1.1
      | inr d ↦ word_variables (codes "drop") line d.0 refl d.1 ∙ spelled_plain d.2.0 d.0 d.2.1
    ]

pub edits_are_decided : IsDecided IsEditLine
edits_are_decided = record { either = λ line. by_space line (begins_with is_blank (past_word line)) refl; one = edit_one; plain = edit_plain }
