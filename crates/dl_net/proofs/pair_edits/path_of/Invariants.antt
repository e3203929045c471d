use Rattle.std.proofs.Common.{◌≡◌, map, take}
use Rattle.dl_theory.specs.Pairs.{label_at}
use Rattle.dl_net.proofs.pair_edits.path_of.Given as goal

abbrev pub invariant-loop-number : goal.invariant-loop-number
invariant-loop-number l = l.path ≡ map (label_at l.labels.labels) (take l.number-index l.track)
