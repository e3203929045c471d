-- Literals by number, each beside its complement.
use Rattle.std.specs.Prelude.{◌≡◌, ◌⊎◌, ℕ, zero, suc, List, [], ◌∷◌, ◌++◌, All, Contains}
use Rattle.std.specs.List.{position_or_len}
use Rattle.dl_lit.specs.declared.literal.Literal.{Literal}
use Rattle.dl_lit.specs.Literal.{complement, literal_eq}

-- a literal and then its complement, and so on
abbrev pub IsPaired : List Literal → Type 0
IsPaired [] = Unit {0}
IsPaired (q ∷ []) = ⊥
IsPaired (q ∷ r ∷ more) = (r ≡ complement q) × IsPaired more

-- the literal or its complement is in the list
abbrev pub IsNear : List Literal → Literal → Type 0
IsNear qs q = Contains qs q ⊎ Contains qs (complement q)

-- literals with P have joined at the end
pub record Grows (P : Literal → Type 0) (old new : List Literal) : Type 0 where
  pub more : List Literal
  pub is : new ≡ old ++ more
  pub only : All P more

-- the number of a literal
abbrev pub number_in : List Literal → Literal → ℕ
number_in ls q = position_or_len (λ x. literal_eq x q) ls

-- the number of the complement
abbrev pub flip : ℕ → ℕ
flip zero = 1
flip (suc zero) = 0
flip (suc (suc k)) = suc (suc (flip k))
