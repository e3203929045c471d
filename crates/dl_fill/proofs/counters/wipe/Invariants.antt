use Rattle.std.proofs.Common.{◌≡◌, drop}
use Rattle.dl_fill.specs.Counters.{IsQueue}
use Rattle.dl_fill.proofs.counters.wipe.Given as goal

abbrev pub invariant-loop-node : goal.invariant-loop-node
invariant-loop-node l = record {
  need : l.cells.numbers ≡ l.fn.cells.numbers;
  queued : IsQueue l.cells.flags l.fn.cells.numbers (drop l.node-index l.queue);
}
