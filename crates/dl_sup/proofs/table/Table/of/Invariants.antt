use Rattle.std.proofs.Common.{◌≡◌, take}
use Rattle.dl_sup.proofs.table.Table.of.Given as goal

abbrev pub invariant-loop-link : goal.invariant-loop-link
invariant-loop-link l = l.table ≡ take l.link-index l.links
