-- Rows of numbers that belong to the members of a list.
use Rattle.std.proofs.Common.{◌≡◌, ℕ, zero, suc, ◌≤◌, List, [], ◌∷◌, length, get_or, map, refl, arith}
use Rattle.dl_rows.specs.Rows.{row}

module _ {X : Type 0} (f : X → List ℕ) where
  pub row_past : (xs : List X) (k : ℕ) → length xs ≤ k → row f xs k ≡ []
  row_past [] k past = refl
  row_past (x ∷ xs) zero past = absurd (omega (arith, past))
  row_past (x ∷ xs) (suc k) past = row_past xs k (omega (arith, past))

  pub get_or-rows : (xs : List X) (k : ℕ) → get_or (map f xs) k [] ≡ row f xs k
  get_or-rows [] k = refl
  get_or-rows (x ∷ xs) zero = refl
  get_or-rows (x ∷ xs) (suc k) = get_or-rows xs k

pub row-map : {X Y : Type 0} (g : Y → List ℕ) (f : X → Y) (xs : List X) (k : ℕ) → row g (map f xs) k ≡ row (λ x. g (f x)) xs k
row-map g f [] k = refl
row-map g f (x ∷ xs) zero = refl
row-map g f (x ∷ xs) (suc k) = row-map g f xs k
