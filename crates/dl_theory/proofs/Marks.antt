-- What makes marks right: each that stands follows, and what meets its condition over the marks is marked.
use Rattle.std.proofs.Common.{◌≡◌, ℕ, Bool, List, Some, get_or, inl, inr, sym, subst, ◌∙◌, arith}
use Rattle.std.specs.Prelude.{◌↔◌, slice_get}
use Rattle.std.proofs.lemmas.Bool.{cases_lt}
use Rattle.std.proofs.lemmas.Option.{slice_get_within, get_or_from_slice_get}
use Rattle.dl_base.specs.Paths.{IsDistinct}
use Rattle.dl_lit.specs.declared.literal.Literal.{Literal}
use Rattle.dl_lit.specs.declared.literal.Tagged.{Tagged}
use Rattle.dl_lit.specs.declared.literal.Family.{Family}
use Rattle.dl_lit.specs.declared.literal.Tag.{Tag}
use Rattle.dl_lit.specs.Literal.{tagged}
use Rattle.dl_theory.specs.Lists.{TheoryLists}
use Rattle.dl_theory.specs.Conditions.{Meets}
use Rattle.dl_theory.specs.Derivations.{Follows}
use Rattle.dl_theory.proofs.Within.{IsClosedUnder}
use Rattle.dl_theory.proofs.Closure.{saturated_has}

-- a value stands at one place of a list without repeats
pub one_place : {X : Type 0} (xs : List X) (m n : ℕ) (x : X) → IsDistinct xs → slice_get xs m ≡ Some x → slice_get xs n ≡ Some x → m ≡ n
one_place xs m n x distinct e f =
    let same : get_or xs m x ≡ get_or xs n x = get_or_from_slice_get xs m x x e ∙ sym (get_or_from_slice_get xs n x x f) in
    elim (cases_lt m n) [
      | inl before ↦ absurd (distinct m n x before (slice_get_within xs n x f) same)
      | inr after ↦ elim (cases_lt n m) [
        | inl before ↦ absurd (distinct n m x before (slice_get_within xs m x e) (sym same))
        | inr equal ↦ omega (arith, after, equal)
      ]
    ]

module _ (T : TheoryLists) (names : List Literal) (marked : Tag → ℕ → Type 0) where
  -- the mark of a tagged literal stands at the place of its literal
  abbrev pub IsMarked : Tagged → Type 0
  IsMarked x = (n : ℕ) × (slice_get names n ≡ Some x.literal) × marked (record { plus = x.plus; family = x.family }) n

  -- within families and literals that are enough by themselves
  pub right_at : (F : Family → Type 0) (S : Literal → Type 0) → IsClosedUnder T F S → IsDistinct names
      → ((x : Tagged) → F x.family → IsMarked x → Follows T x)
      → ((x : Tagged) → F x.family → S x.literal → Meets T IsMarked x → IsMarked x)
      → (plus : Bool) (f : Family) (q : Literal) (n : ℕ) → F f → S q → slice_get names n ≡ Some q
      → marked (record { plus = plus; family = f }) n ↔ Follows T (tagged plus f q)
  right_at F S closed distinct sound saturated plus f q n fam inside at = (
    λ m. sound (tagged plus f q) fam (n, at, m),
    λ follows.
        let there = saturated_has T F S closed IsMarked saturated (tagged plus f q) follows fam inside in
        subst (λ (k : ℕ). marked (record { plus = plus; family = f }) k) (one_place names there.0 n q distinct there.1 at) there.2,
  )
