-- The counters before the run. A node's inputs and its gate say what it waits for.
use Rattle.std.specs.Prelude.{◌≡◌, ℕ, suc, zero, ◌+◌, ◌*◌, ◌/◌, ◌%◌, ◌<◌, ◌≤◌, Bool, cond, nat_lt, List, [], ◌∷◌, ◌++◌, length, slice_index, slice_set}
use Rattle.std.specs.List.{flat_map}
use Rattle.dl_graph.specs.Counting.{times}
use Rattle.dl_fill.specs.Counters.{CounterLists, waiting}
use Rattle.dl_fill.specs.declared.wire.Gate.{Gate}
use Rattle.dl_fill.specs.declared.wire.Gate.TheVariants.{Never}
use Rattle.dl_fill.specs.Gates.{awaited, at_once, hits_of, now_of}
use Rattle.dl_fill.specs.Before.{is_inside}

-- the node waits for that many hits, or stands in the queue
abbrev pub begun : CounterLists → ℕ → ℕ → Bool → CounterLists
begun w y hits now = record { need = slice_set w.need y hits; queue = cond now (w.queue ++ y ∷ []) w.queue }

abbrev pub one_if : Bool → ℕ
one_if b = cond b 1 0

-- the nodes below n wait for what their gates say, and those that fire at once stand in the queue
pub record IsBegun (inputs : ℕ → List ℕ) (gate : ℕ → Gate) (n : ℕ) (w : CounterLists) : Type 0 where
  pub need_below : (y : ℕ) → y < n → slice_index w.need y ≡ awaited (gate y) (inputs y)
  pub need_above : (y : ℕ) → n ≤ y → slice_index w.need y ≡ 0
  pub queue_below : (y : ℕ) → y < n → times y w.queue ≡ one_if (at_once (gate y) (inputs y))
  pub queue_above : (y : ℕ) → n ≤ y → times y w.queue ≡ 0
  pub few : length w.queue + waiting w.need ≤ n

-- the node begins to wait for what its gate asks of so many inputs
abbrev pub begun_by : Gate → ℕ → ℕ → CounterLists → CounterLists
begun_by gate inputs y w = begun w y (hits_of gate inputs) (now_of gate inputs)

-- these nodes have begun to wait for what their gates say, and all others are as before
pub record Begins (inputs : ℕ → List ℕ) (gate : ℕ → Gate) (nodes : List ℕ) (v w : CounterLists) : Type 0 where
  pub need_in : (y : ℕ) → 0 < times y nodes → slice_index w.need y ≡ awaited (gate y) (inputs y)
  pub need_out : (y : ℕ) → times y nodes ≡ 0 → slice_index w.need y ≡ slice_index v.need y
  pub queue_in : (y : ℕ) → 0 < times y nodes → times y w.queue ≡ times y v.queue + one_if (at_once (gate y) (inputs y))
  pub queue_out : (y : ℕ) → times y nodes ≡ 0 → times y w.queue ≡ times y v.queue
  pub few : length w.queue + waiting w.need ≤ length v.queue + waiting v.need + length nodes
  pub size : length w.need ≡ length v.need

-- the nodes of n kinds at a place, the first of which is from
abbrev pub nodes_at : ℕ → ℕ → ℕ → ℕ → List ℕ
nodes_at width from zero place = []
nodes_at width from (suc n) place = nodes_at width from n place ++ (place * width + (from + n)) ∷ []

abbrev pub all_nodes : ℕ → ℕ → ℕ → List ℕ → List ℕ
all_nodes width from n places = flat_map (nodes_at width from n) places

-- whether a node is that of a literal of the region or of a rule that the fill touches. Kinds below `literals` are those of literals
abbrev pub is_touched_at : ℕ → List ℕ → List ℕ → ℕ → ℕ → Bool
is_touched_at literals members rules kind place = cond (nat_lt kind literals) (is_inside members place) (is_inside rules place)

abbrev pub is_touched : ℕ → ℕ → List ℕ → List ℕ → ℕ → Bool
is_touched width literals members rules y = is_touched_at literals members rules (y % width) (y / width)

-- the gate of a node that is touched; no other fires
abbrev pub touched_gate : ℕ → ℕ → List ℕ → List ℕ → (ℕ → ℕ → Gate) → ℕ → Gate
touched_gate width literals members rules gate y = cond (is_touched width literals members rules y) (gate (y % width) (y / width)) Never

-- nothing waits
pub record IsClean (w : CounterLists) : Type 0 where
  pub need : (y : ℕ) → slice_index w.need y ≡ 0
  pub queue : w.queue ≡ []

-- for how many kinds of nodes there is room, at how many places: a place is that of a rule or of a name
pub record Room : Type 0 where
  pub width : ℕ
  pub places : ℕ
