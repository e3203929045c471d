use Rattle.std.proofs.Common.{◌≡◌, ◌+◌, ◌≤◌}
use Rattle.std.specs.List.{range_with_len}
use Rattle.dl_lists.proofs.entries.each_itself.Given as goal

abbrev pub invariant-loop-number : goal.invariant-loop-number
invariant-loop-number l = record {
  items : l.table.items ≡ range_with_len 0 l.number;
  room : l.len ≤ l.table.spare + l.number;
}
