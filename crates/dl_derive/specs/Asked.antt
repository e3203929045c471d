-- What an answer is asked of.
use Rattle.std.specs.Prelude.{◌<◌, ◌≤◌, ℕ, length, Contains}
use Rattle.dl_lit.specs.declared.literal.Family.{Family}
use Rattle.dl_theory.specs.Verdicts.{needs}
use Rattle.dl_marks.specs.Marks.{Marking, places}
use Rattle.dl_graph.specs.Numbers.{NetLists}
use Rattle.dl_graph.specs.Region.{Numbers}
use Rattle.dl_fill.specs.Filled.{IsRight}
use Rattle.dl_derive.specs.Back.{IsBack}

-- the region is what matters for a literal, and the marks are right in the families that a family needs
pub record IsAsked (N : NetLists) (m : Marking) (region : Numbers) (f : Family) (q : ℕ) : Type 0 where
  pub number : q < length N.names
  pub back : IsBack N q region
  pub room : length N.names ≤ places m
  pub right : (g : Family) → Contains (needs f) g → IsRight N m g
