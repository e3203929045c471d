-- When a node fires, in terms of its inputs, and what it waits for.
use Rattle.std.specs.Prelude.{ℕ, ◌<◌, ◌==◌, Bool, true, false, List, length}
use Rattle.dl_graph.specs.Counting.{times}
use Rattle.dl_fill.specs.declared.wire.Gate.{Gate}
use Rattle.dl_fill.specs.declared.wire.Gate.TheVariants.{Every, Either, Now, Never}

-- how many hits a node waits for, by the number of its inputs
abbrev pub hits_of : Gate → ℕ → ℕ
hits_of Every n = n
hits_of Either n = 1
hits_of Now n = 0
hits_of Never n = 0

-- whether it fires at once
abbrev pub now_of : Gate → ℕ → Bool
now_of Every n = n == 0
now_of Either n = false
now_of Now n = true
now_of Never n = false

abbrev pub awaited : Gate → List ℕ → ℕ
awaited g xs = hits_of g (length xs)

abbrev pub at_once : Gate → List ℕ → Bool
at_once g xs = now_of g (length xs)

-- the gate is passed, where the inputs with P have fired
abbrev pub Passes : (ℕ → Type 0) → Gate → List ℕ → Type 0
Passes P Every xs = (x : ℕ) → 0 < times x xs → P x
Passes P Either xs = (x : ℕ) × (0 < times x xs) × P x
Passes P Now xs = Unit {0}
Passes P Never xs = ⊥
