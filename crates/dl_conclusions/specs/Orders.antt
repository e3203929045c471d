-- The order of the literals that a theory mentions, by their numbers.
use Rattle.std.specs.Prelude.{ℕ, ◌<◌, List, All, length, map}
use Rattle.dl_theory.specs.Listings.{AreLiterals}
use Rattle.dl_graph.specs.Numbers.{NetLists, literal_at}

-- the numbers of the literals that the theory mentions, in the order of the literals
pub record IsOrder (N : NetLists) (numbers : List ℕ) : Type 0 where
  pub within : All (λ n. n < length N.names) numbers
  pub listed : AreLiterals N.theory (map (literal_at N) numbers)
