use Rattle.std.proofs.Common.{◌≡◌, ◌+◌, ◌≤◌, length, take}
use Rattle.dl_pages.proofs.table.in_pages.Given as goal

abbrev pub invariant-loop-item : goal.invariant-loop-item
invariant-loop-item g l = record {
  copied : l.pages.items ≡ take l.item-index l.items;
  room : length l.items ≤ l.pages.spare + l.item-index;
}
