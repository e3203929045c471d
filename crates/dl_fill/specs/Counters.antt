-- Nodes that wait for a number of hits, and those whose hits have come.
use Rattle.dl_graph.specs.Counting.{times}
use Rattle.std.specs.Prelude.{◌≡◌, ◌≤◌, ◌<◌, ◌^◌, Bool, false, length, slice_index_or, ℕ, ◌+◌, ◌-◌, ◌==◌, cond, List, [], ◌∷◌, ◌++◌, slice_index, slice_set, count_by, nat_lt}

-- how many hits each node still waits for, and the nodes that are done waiting, in order
pub record CounterLists : Type 0 where
  pub need : List ℕ
  pub queue : List ℕ

-- one hit: the last that a node waits for puts it into the queue, and a node that waits for none is left alone
abbrev pub hit : CounterLists → ℕ → CounterLists
hit w y =
    cond (slice_index w.need y == 0) w
    (record {
      need = slice_set w.need y (slice_index w.need y - 1);
      queue = cond (slice_index w.need y == 1) (w.queue ++ y ∷ []) w.queue;
    })

-- hits are on nodes that there are
abbrev pub AreNodes : CounterLists → List ℕ → Type 0
AreNodes w hits = (y : ℕ) → 0 < times y hits → y < length w.need

-- the nodes at which the list says so
abbrev pub chosen : List Bool → List ℕ → List ℕ
chosen bs [] = []
chosen [] (y ∷ ys) = []
chosen (b ∷ bs) (y ∷ ys) = cond b (y ∷ chosen bs ys) (chosen bs ys)

-- how many nodes wait
abbrev pub waiting : List ℕ → ℕ
waiting need = count_by (λ n. nat_lt 0 n) need

-- the nodes that have fired are those of the queue, each once, and they wait for nothing
pub record IsQueue (fired : List Bool) (need queue : List ℕ) : Type 0 where
  pub size : length need ≡ length fired
  pub fires : (y : ℕ) → y < length fired → slice_index_or fired y false ≡ nat_lt 0 (times y queue)
  pub idle : (y : ℕ) → 0 < times y queue → slice_index need y ≡ 0
  pub within : (y : ℕ) → 0 < times y queue → y < length fired
  pub once : (y : ℕ) → times y queue ≤ 1

-- how the fields of counters fit together: where there are nodes, there is room for all of them in the queue, and for one more
pub record IsKept (fired : List Bool) (need queue : List ℕ) (capacity : ℕ) : Type 0 where
  pub queued : IsQueue fired need queue
  pub few : length queue + waiting need ≤ length need
  pub small : length need ≤ 2 ^ 31
  pub room : 0 < length need → length need < capacity
