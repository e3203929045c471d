-- The region of all names.
use Rattle.std.specs.Prelude.{◌≡◌, ℕ, ◌<◌, Contains, length}
use Rattle.dl_graph.specs.Numbers.{NetLists}
use Rattle.dl_graph.specs.Region.{Numbers}

pub record IsWhole (N : NetLists) (region : Numbers) : Type 0 where
  pub bound : region.bound ≡ length N.names
  pub all : (n : ℕ) → n < length N.names → Contains region.members n
