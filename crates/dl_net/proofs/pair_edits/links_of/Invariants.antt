use Rattle.std.proofs.Common.{◌≡◌, take}
use Rattle.dl_rows.specs.There.{there}
use Rattle.dl_net.proofs.pair_edits.links_of.Given as goal

abbrev pub invariant-loop-number : goal.invariant-loop-number
invariant-loop-number l = l.links.items ≡ there (take l.number l.pairs.items)
