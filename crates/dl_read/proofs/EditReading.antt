-- Requests that make an edit.
use Rattle.std.proofs.Common.{◌≡◌, ℕ, true, false, List, [], ◌∷◌, Some, None, refl, sym, ap, subst, ◌∙◌, inl, inr, cond}
use Rattle.std.specs.Prelude.{Result, Ok, Err, codes}
use Rattle.dl_theory.specs.declared.edit.Edit.{Edit}
use Rattle.dl_read.specs.declared.statement.LineStop.{LineStop}
use Rattle.dl_read.specs.declared.statement.LineStop.TheVariants as line_stop
use Rattle.dl_read.specs.declared.statement.Statement.{Statement}
use Rattle.dl_read.specs.Grammar.{is_blank, begins_with, has_variables, Says, Reads}
use Rattle.dl_read.specs.Words.{word_of, past_word}
use Rattle.dl_read.specs.EditLines.{BeginsWith, added, Adds, Drops, IsEditLine}
use Rattle.dl_read.proofs.Parts.{some_is}
use Rattle.dl_read.proofs.Scanning.{by_test}
use Rattle.dl_read.proofs.WordLemmas.{word_begins, word_found, word_variables}
use Rattle.dl_read.proofs.Readings.{reads_ok, reads_none, reads_err}

-- no reader takes a line that says nothing
pub outside_reads : {A : Type 0} (N : List ℕ → A → Type 0) (line : List ℕ) (x : LineStop) → ((y : A) → N line y → ⊥) → x ≡ cond (has_variables line) line_stop.Variables line_stop.Bad
    → Reads N line (Err x)
outside_reads {A} N line x none e =
    let P : LineStop → Type 0 = λ s. Reads {A = A} N line (Err s) in
    subst P (sym e) (by_test P (has_variables line) line_stop.Variables line_stop.Bad (λ h. h) (λ h. (h, none)))

-- what a statement adds

abbrev IsAdded : Statement → Edit → Type 0
IsAdded s e = added s ≡ Some e

adds_into : (line : List ℕ) (s : Statement) (e : Edit) → IsAdded s e → Says line s → Adds line e
adds_into line s e i h = (s, h, i)

adds_back : (line : List ℕ) (e : Edit) → Adds line e → (s : Statement) × IsAdded s e × Says line s
adds_back line e h = (h.0, h.2, h.1)

pub adds_ok : (line : List ℕ) (s : Statement) (e : Edit) → added s ≡ Some e → Reads Says line (Ok s) → Reads Adds line (Ok e)
adds_ok line s e i r =
    reads_ok Says Adds line line refl IsAdded (adds_into line) (adds_back line) s e i (λ z j. some_is z e (sym j ∙ i)) r

pub adds_none : (line : List ℕ) (s : Statement) → added s ≡ None → Reads Says line (Ok s) → Reads Adds line (Err line_stop.Bad)
adds_none line s i r = reads_none Says Adds line line refl IsAdded (adds_into line) (adds_back line) s (λ e j. (let k : IsAdded s e = j in cc)) r

pub adds_err : (line : List ℕ) (x : LineStop) → Reads Says line (Err x) → Reads Adds line (Err x)
adds_err line x r = reads_err Says Adds line line refl IsAdded (adds_into line) (adds_back line) x r

-- the first word decides

pub begins_add : (line rest : List ℕ) → BeginsWith (codes "add") line rest → (word_of line ≡ codes "add") × (past_word line ≡ rest)
begins_add line rest h = word_begins 97 (100 ∷ 100 ∷ []) line rest refl h

pub begins_drop : (line rest : List ℕ) → BeginsWith (codes "drop") line rest → (word_of line ≡ codes "drop") × (past_word line ≡ rest)
begins_drop line rest h = word_begins 100 (114 ∷ 111 ∷ 112 ∷ []) line rest refl h

not_both : (word : List ℕ) → word ≡ codes "add" → word ≡ codes "drop" → ⊥
not_both word e f = let g : codes "add" ≡ codes "drop" = sym e ∙ f in cc

pub behind_add : (line : List ℕ) → word_of line ≡ codes "add" → (e : Edit) → IsEditLine line e → Adds (past_word line) e
behind_add line w e n =
    elim n [
      | inl a ↦ subst (λ (l : List ℕ). Adds l e) (sym (begins_add line a.0 a.1).1) a.2
      | inr d ↦ absurd (not_both (word_of line) w (begins_drop line d.0 d.1).0)
    ]

pub behind_drop : (line : List ℕ) → word_of line ≡ codes "drop" → (e : Edit) → IsEditLine line e → Drops (past_word line) e
behind_drop line w e n =
    elim n [
      | inl a ↦ absurd (not_both (word_of line) (begins_add line a.0 a.1).0 w)
      | inr d ↦ subst (λ (l : List ℕ). Drops l e) (sym (begins_drop line d.0 d.1).1) d.2
    ]

-- a reader of the rest reads the whole line
behind_reads : (M : List ℕ → Edit → Type 0) (line rest : List ℕ) → has_variables line ≡ has_variables rest
    → ((e : Edit) → M rest e → IsEditLine line e) → ((e : Edit) → IsEditLine line e → M rest e) → (r : Result Edit LineStop) → Reads M rest r → Reads IsEditLine line r
behind_reads M line rest same into back (Ok e) r =
    reads_ok M IsEditLine rest line same (λ x y. y ≡ x) (λ x y i m. into y (subst (λ (z : Edit). M rest z) (sym i) m)) (λ y n. (y, refl, back y n)) e e refl (λ z i. i) r
behind_reads M line rest same into back (Err x) r =
    reads_err M IsEditLine rest line same (λ x y. y ≡ x) (λ x y i m. into y (subst (λ (z : Edit). M rest z) (sym i) m)) (λ y n. (y, refl, back y n)) x r

pub add_reads : (line : List ℕ) (r : Result Edit LineStop) → word_of line ≡ codes "add" → begins_with is_blank (past_word line) ≡ true → Reads Adds (past_word line) r → Reads IsEditLine line r
add_reads line r w b h =
    let begins = word_found (codes "add") line w b in
    behind_reads Adds line (past_word line) (word_variables (codes "add") line (past_word line) refl begins) (λ e m. inl (past_word line, begins, m))
    (behind_add line w) r h

pub drop_reads : (line : List ℕ) (r : Result Edit LineStop) → word_of line ≡ codes "drop" → begins_with is_blank (past_word line) ≡ true → Reads Drops (past_word line) r → Reads IsEditLine line r
drop_reads line r w b h =
    let begins = word_found (codes "drop") line w b in
    behind_reads Drops line (past_word line) (word_variables (codes "drop") line (past_word line) refl begins) (λ e m. inr (past_word line, begins, m))
    (behind_drop line w) r h

pub no_word : (line : List ℕ) → (word_of line ≡ codes "add" → ⊥) → (word_of line ≡ codes "drop" → ⊥) → (e : Edit) → IsEditLine line e → ⊥
no_word line a d e h = elim h [ inl x ↦ a (begins_add line x.0 x.1).0 | inr x ↦ d (begins_drop line x.0 x.1).0 ]

pub no_space : (line : List ℕ) → begins_with is_blank (past_word line) ≡ false → (e : Edit) → IsEditLine line e → ⊥
no_space line b e h =
    elim h [
      | inl x ↦ (let f : begins_with is_blank (past_word line) ≡ true = ap (begins_with is_blank) (begins_add line x.0 x.1).1 ∙ x.1.spaced in cc)
      | inr x ↦ (let f : begins_with is_blank (past_word line) ≡ true = ap (begins_with is_blank) (begins_drop line x.0 x.1).1 ∙ x.1.spaced in cc)
    ]
