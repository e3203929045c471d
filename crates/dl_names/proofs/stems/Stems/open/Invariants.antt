use Rattle.std.proofs.Common.{ℕ, ◌-◌, List, vec_len}
use Rattle.dl_names.specs.Stems.{Knows}
use Rattle.dl_names.proofs.stems.Stems.open.Given as goal

abbrev pub invariant-loop-alloc : goal.invariant-loop-alloc
invariant-loop-alloc l = (a : List ℕ) (n : ℕ) → Knows l.self a n → Knows l.initial.self a n

abbrev pub decreases-loop-alloc : goal.decreases-loop-alloc
decreases-loop-alloc l = 64 - vec_len l.self.stems
