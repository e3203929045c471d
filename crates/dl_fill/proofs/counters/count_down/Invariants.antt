use Rattle.std.proofs.Common.{◌≡◌, length, take}
use Rattle.std.specs.List.{fold}
use Rattle.dl_fill.specs.Cells.{counted_down, come_down}
use Rattle.dl_fill.proofs.counters.count_down.Given as goal

abbrev pub invariant-loop-at : goal.invariant-loop-at
invariant-loop-at l = record {
  lower : l.cells ≡ fold counted_down l.fn.cells (take l.at l.nodes);
  told : take l.at l.fires ≡ come_down l.fn.cells (take l.at l.nodes);
  long : length l.fires ≡ 64;
  size : length l.cells.flags ≡ length l.fn.cells.flags;
}
