-- Sets of numbers below a bound.
use Rattle.std.specs.Prelude.{◌≡◌, ℕ, ◌*◌, ◌/◌, ◌%◌, ◌^◌, ◌<◌, ◌≤◌, ◌==◌, ◌↔◌, Bool, true, List, All, Contains, length, slice_index_or}
use Rattle.std.specs.Int.{bit_at}
use Rattle.dl_base.specs.Paths.{IsDistinct}

pub record Numbers : Type 0 where
  pub bound : ℕ
  pub members : List ℕ

-- the members are distinct and below the bound
pub record IsRegion (r : Numbers) : Type 0 where
  pub distinct : IsDistinct r.members
  pub below : All (λ n. n < r.bound) r.members

-- whether the bit of a number is set, in words of 64 bits
abbrev pub has : List ℕ → ℕ → Bool
has words n = bit_at (slice_index_or words (n / 64) 0) (n % 64) == 1

-- how a region is kept: the bits are those of the members, there is room for all numbers, and the bound has 32 bits
pub record IsKeptRegion (bound : ℕ) (words members : List ℕ) (room : ℕ) : Type 0 where
  pub region : IsRegion (record { bound = bound; members = members })
  pub enough : bound ≤ room
  pub few : bound < 2 ^ 32
  pub words_enough : bound ≤ 64 * length words
  pub bits : (n : ℕ) → (has words n ≡ true) ↔ Contains members n
