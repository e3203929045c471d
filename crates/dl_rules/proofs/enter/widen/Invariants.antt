use Rattle.std.proofs.Common.{◌-◌, ◌≤◌, max, length}
use Rattle.dl_rows.specs.Tables.{KeepsLists}
use Rattle.dl_rules.proofs.enter.widen.Given as goal

abbrev pub invariant-loop-rows : goal.invariant-loop-rows
invariant-loop-rows l = record {
  kept : KeepsLists l.fn.rows l.rows;
  most : length l.rows.lists ≤ max l.names (length l.fn.rows.lists);
}

abbrev pub decreases-loop-rows : goal.decreases-loop-rows
decreases-loop-rows l = l.names - length l.rows.lists
