use Rattle.std.proofs.Common.{◌≡◌, map, take}
use Rattle.dl_theory.specs.Pairs.{label_at}
use Rattle.dl_theory.proofs.refused.path_of.Given as goal

abbrev pub invariant-loop-n : goal.invariant-loop-n
invariant-loop-n l = l.path ≡ map (label_at l.items) (take l.n-index l.track)
