use Rattle.std.proofs.Common.{◌≡◌, take}
use Rattle.dl_theory.proofs.labels.copy_labels.Given as goal

abbrev pub invariant-loop-label : goal.invariant-loop-label
invariant-loop-label l = l.copy.keys ≡ take l.label-index l.label-items
