-- Where an item stands last in a list.
use Rattle.std.specs.Prelude.{◌≡◌, ◌≢◌, ℕ, ◌<◌, Some, List, slice_get}

-- a number with an item, and no later one has it
pub record IsLast {A : Type 0} (xs : List A) (x : A) (n : ℕ) : Type 0 where
  pub has : slice_get xs n ≡ Some x
  pub none_later : (m : ℕ) → n < m → slice_get xs m ≢ Some x
