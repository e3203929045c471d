use Rattle.std.proofs.Common.{◌+◌, ◌-◌, length}
use Rattle.dl_rows.specs.Tables.{KeepsLists}
use Rattle.dl_lists.proofs.pair_places.reserve_at.Given as goal

abbrev pub invariant-loop-rows : goal.invariant-loop-rows
invariant-loop-rows l = KeepsLists l.fn.rows l.rows

abbrev pub decreases-loop-rows : goal.decreases-loop-rows
decreases-loop-rows l = l.number + 1 - length l.rows.lists
