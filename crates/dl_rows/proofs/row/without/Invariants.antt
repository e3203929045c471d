use Rattle.std.proofs.Common.{◌≡◌, ◌≤◌, ◌+◌, length, take}
use Rattle.dl_rows.specs.Tables.{drop_item}
use Rattle.dl_rows.proofs.row.without.Given as goal

abbrev pub invariant-loop-number : goal.invariant-loop-number
invariant-loop-number l = record {
  items : l.left.items ≡ drop_item l.item (take l.number-index l.numbers);
  few : length l.left.items ≤ l.number-index;
  room : l.left.spare + length l.left.items ≡ 3;
}
