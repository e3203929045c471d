use Rattle.std.proofs.Common.{◌≡◌, length, take}
use Rattle.std.specs.Prelude.{All}
use Rattle.dl_rows.specs.Tables.{KeepsLists, IsOpen}
use Rattle.dl_rules.proofs.leave.open_each.Given as goal

abbrev pub invariant-loop-number : goal.invariant-loop-number
invariant-loop-number l = record {
  kept : KeepsLists l.fn.rows l.rows;
  same : length l.rows.lists ≡ length l.fn.rows.lists;
  able : All (IsOpen l.rows) (take l.number-index l.numbers);
}
