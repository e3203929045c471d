use Rattle.std.proofs.Common.{◌≡◌, Some, take, map}
use Rattle.dl_rows.specs.There.{there}
use Rattle.dl_net.proofs.anew.lines_in_order.Given as goal

abbrev pub invariant-loop-number : goal.invariant-loop-number
invariant-loop-number l = l.lines.items ≡ map Some (there (take l.number l.index.lines))
