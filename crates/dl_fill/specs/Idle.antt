-- The parts of a fill between fills.
use Rattle.std.specs.Prelude.{◌≡◌, ℕ, ◌*◌, [], length}
use Rattle.dl_graph.specs.Region.{Numbers}
use Rattle.dl_fill.specs.Counters.{CounterLists}
use Rattle.dl_fill.specs.Prepared.{IsClean}

-- there is room for nodes of each kind at that many places, nothing waits, and no rule is touched
pub record IsIdle (width places : ℕ) (w : CounterLists) (rules : Numbers) : Type 0 where
  pub size : length w.need ≡ places * width
  pub bound : rules.bound ≡ places
  pub clean : IsClean w
  pub none : rules.members ≡ []
