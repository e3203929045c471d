-- Nodes in an order in which each is passed by nodes before it.
use Rattle.std.specs.Prelude.{◌≡◌, ℕ, ◌/◌, ◌%◌, ◌<◌, true, List, [], ◌∷◌, ◌++◌}
use Rattle.dl_graph.specs.Counting.{times}
use Rattle.dl_graph.specs.Numbers.{NetLists}
use Rattle.dl_fill.specs.declared.wire.Gate.{Gate}
use Rattle.dl_fill.specs.declared.wire.Wire.{Wire}
use Rattle.dl_fill.specs.Gates.{Passes}
use Rattle.dl_fill.specs.Wires.{inputs}
use Rattle.dl_fill.specs.Before.{Before}

-- each node of the rest is new, and its gate is passed by the nodes before it
abbrev pub Passing : (ℕ → List ℕ) → (ℕ → Gate) → List ℕ → List ℕ → Type 0
Passing inputs gate before [] = Unit {0}
Passing inputs gate before (y ∷ rest) =
    (times y before ≡ 0) × Passes (λ x. 0 < times x before) (gate y) (inputs y) × Passing inputs gate (before ++ y ∷ []) rest

-- the nodes of a family in such an order, those of literals in the region
pub record IsOrdered (N : NetLists) (b : Before) (width literals : ℕ) (wires : List Wire) (gate : ℕ → ℕ → Gate) (nodes : List ℕ) : Type 0 where
  pub passing : Passing (inputs N b.inside width wires) (λ y. gate (y % width) (y / width)) [] nodes
  pub here : (y : ℕ) → 0 < times y nodes → y % width < literals → b.inside (y / width) ≡ true
