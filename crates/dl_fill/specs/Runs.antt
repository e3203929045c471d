-- The run of a queue: each node in turn passes on its hits.
use Rattle.std.specs.Prelude.{ℕ, ◌+◌, ◌<◌, ◌≤◌, List, length, slice_index}
use Rattle.std.specs.List.{fold}
use Rattle.dl_graph.specs.Counting.{times}
use Rattle.dl_fill.specs.Counters.{CounterLists, hit}
use Rattle.dl_fill.specs.declared.wire.Gate.{Gate}
use Rattle.dl_graph.specs.Numbers.{NetLists}
use Rattle.dl_fill.specs.declared.wire.Wire.{Wire}
use Rattle.dl_fill.specs.Wires.{edges, inputs}
use Rattle.dl_fill.specs.Before.{Before}
use Rattle.dl_fill.specs.Prepared.{IsBegun, touched_gate}
use Rattle.dl_fill.specs.Touched.{Touches}

-- the first `head` nodes of the queue have fired since w
pub data Fires (edges : ℕ → List ℕ) (w : CounterLists) : ℕ → CounterLists → Type 0 where
  begins : Fires edges w 0 w
  goes : (head : ℕ) (v : CounterLists) → Fires edges w head v → head < length v.queue
      → Fires edges w (head + 1) (fold hit v (edges (slice_index v.queue head)))

-- all have
pub record IsRunOut (edges : ℕ → List ℕ) (w v : CounterLists) : Type 0 where
  pub head : ℕ
  pub fires : Fires edges w head v
  pub ends : length v.queue ≤ head

-- the counters after a run of the nodes that a region touches, from the start that their gates and inputs say
pub record HasRun (N : NetLists) (b : Before) (members : List ℕ) (width literals : ℕ) (wires : List Wire) (gate : ℕ → ℕ → Gate) (rules : List ℕ) (w : CounterLists) : Type 0 where
  pub touches : Touches N members rules
  pub middle : CounterLists
  pub begun : IsBegun (inputs N b.inside width wires) (touched_gate width literals members rules gate) (length middle.need) middle
  pub inside : (x y : ℕ) → x < length middle.need → 0 < times y (edges N width wires x) → y < length middle.need
  pub out : IsRunOut (edges N width wires) middle w
