use Rattle.std.proofs.Common.{◌≡◌, ◌+◌, ◌≤◌, length, take}
use Rattle.dl_pages.proofs.paged.copied.Given as goal

abbrev pub invariant-loop-at : goal.invariant-loop-at
invariant-loop-at g l = record {
  copied : l.copy.items ≡ take l.at l.list.items;
  room : length l.list.items ≤ l.copy.spare + l.at;
}
