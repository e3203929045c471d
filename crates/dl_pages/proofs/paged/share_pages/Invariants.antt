use Rattle.std.proofs.Common.{◌≡◌, ◌+◌, take}
use Rattle.dl_pages.proofs.paged.share_pages.Given as goal

abbrev pub invariant-loop-number : goal.invariant-loop-number
invariant-loop-number g l = record {
  items : l.copy.items ≡ take l.number l.pages.items;
  room : l.copy.spare + l.number ≡ l.used;
}
