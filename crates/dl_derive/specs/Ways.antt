-- Nodes that lead up to one.
use Rattle.std.specs.Prelude.{◌≡◌, ℕ, ◌*◌, ◌≤◌, List, [], ◌∷◌, ◌++◌, length}
use Rattle.dl_marks.specs.Marks.{Marking}
use Rattle.dl_graph.specs.Region.{Numbers}
use Rattle.dl_graph.specs.Numbers.{NetLists}
use Rattle.dl_fill.specs.declared.wire.Gate.{Gate}
use Rattle.dl_fill.specs.Before.{Before, before_of}
use Rattle.dl_fill.specs.Counters.{CounterLists}
use Rattle.dl_fill.specs.Families.{FamilyTable}
use Rattle.dl_fill.specs.Runs.{HasRun}
use Rattle.dl_fill.specs.Passing.{IsOrdered}

-- counters with room for each number of a literal and of a rule have run over a region, by the gates of a table
pub record IsRun (t : FamilyTable) (gate : NetLists → Before → ℕ → ℕ → Gate) (N : NetLists) (m : Marking) (region touched : Numbers) (w : CounterLists) : Type 0 where
  pub run : HasRun N (before_of m region) region.members t.width t.literals t.wires (gate N (before_of m region)) touched.members w
  pub size : length w.need ≡ touched.bound * t.width
  pub names : length N.names ≤ touched.bound
  pub rules : length N.rules ≤ touched.bound

-- the nodes end with the node, and are in order
pub record IsWay (t : FamilyTable) (gate : NetLists → Before → ℕ → ℕ → Gate) (N : NetLists) (m : Marking) (region : Numbers) (node : ℕ) (nodes : List ℕ) : Type 0 where
  pub before : List ℕ
  pub ends : nodes ≡ before ++ node ∷ []
  pub ordered : IsOrdered N (before_of m region) t.width t.literals t.wires (gate N (before_of m region)) nodes

-- a front of the queue that ends with the node
pub record IsFrontTo (queue : List ℕ) (node : ℕ) (nodes : List ℕ) : Type 0 where
  pub before : List ℕ
  pub ends : nodes ≡ before ++ node ∷ []
  pub rest : List ℕ
  pub whole : queue ≡ nodes ++ rest
