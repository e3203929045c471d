use Rattle.std.proofs.Common.{◌≡◌, take}
use Rattle.dl_net.specs.Anew.{labels_there}
use Rattle.dl_net.proofs.anew.labels_in_order.Given as goal

abbrev pub invariant-loop-number : goal.invariant-loop-number
invariant-loop-number l = l.set.keys ≡ labels_there (take l.number l.labels.labels) (take l.number l.index.lines)
