use Rattle.std.proofs.Common.{◌≡◌, take}
use Rattle.dl_sup.specs.Slots.{live}
use Rattle.dl_sup.proofs.table.Table.with.Given as goal

abbrev pub invariant-loop-slot : goal.invariant-loop-slot
invariant-loop-slot l = l.all.items ≡ live (take l.slot-index l.slot-items)
