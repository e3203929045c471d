use Rattle.std.proofs.Common.{◌≡◌, take}
use Rattle.dl_rows.specs.There.{there}
use Rattle.dl_net.proofs.anew.facts_in_order.Given as goal

abbrev pub invariant-loop-number : goal.invariant-loop-number
invariant-loop-number l = l.order.items ≡ there (take l.number l.facts.items)
