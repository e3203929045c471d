use Rattle.std.proofs.Common.{◌≡◌, ◌+◌, ◌-◌, ◌≤◌, ◌++◌, true, length, replicate}
use Rattle.dl_pages.proofs.table.fill.Given as goal

abbrev pub invariant-loop : goal.invariant-loop
invariant-loop g l = record {
  items : l.pages.items ≡ l.initial.pages.items ++ replicate (l.counter - length l.initial.pages.items) l.value;
  owned : l.pages.owned ≡ l.initial.pages.owned ++ replicate (l.counter - length l.initial.pages.items) true;
  count : length l.pages.items ≡ l.counter;
  room : l.len ≤ l.counter + l.pages.spare;
}
