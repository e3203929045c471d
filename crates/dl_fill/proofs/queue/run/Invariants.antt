use Rattle.std.proofs.Common.{◌≡◌, ◌-◌, length}
use Rattle.std.specs.List.{fold}
use Rattle.dl_fill.specs.Counters.{AreNodes, hit}
use Rattle.dl_fill.specs.Wires.{edges}
use Rattle.dl_fill.specs.Runs.{Fires}
use Rattle.dl_fill.proofs.queue.run.Given as goal

abbrev pub invariant-loop-node : goal.invariant-loop-node
invariant-loop-node l = record {
  fires : Fires (edges l.net l.width l.wires) l.fn.counters l.head (fold hit l.counters l.hits.items);
  waits : AreNodes l.counters l.hits.items;
  size : length l.counters.need ≡ length l.fn.counters.need;
}

abbrev pub decreases-loop-node : goal.decreases-loop-node
decreases-loop-node l = length l.counters.need - l.head
