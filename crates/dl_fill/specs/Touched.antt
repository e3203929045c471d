-- The rules for and against the literals of a region.
use Rattle.std.specs.Prelude.{◌≡◌, ℕ, ◌<◌, List}
use Rattle.dl_graph.specs.Region.{Numbers}
use Rattle.dl_graph.specs.Counting.{times}
use Rattle.dl_graph.specs.Numbers.{NetLists, literal_at, attackers_row, heads}

-- the rules for each member, and those for each literal that attacks one, are there
pub record Touches (N : NetLists) (members rules : List ℕ) : Type 0 where
  pub for_members : (q : ℕ) → 0 < times q members → (r : ℕ) → 0 < times r (heads N q) → 0 < times r rules
  pub against_members : (q : ℕ) → 0 < times q members → (c : ℕ) → 0 < times c (attackers_row N (literal_at N q)) → (u : ℕ) → 0 < times u (heads N c)
      → 0 < times u rules

-- members stay, and so does the bound
pub record Grows (old new : Numbers) : Type 0 where
  pub bound : new.bound ≡ old.bound
  pub kept : (r : ℕ) → 0 < times r old.members → 0 < times r new.members
