use Rattle.std.proofs.Common.{◌≡◌, length, take}
use Rattle.std.specs.List.{fold}
use Rattle.dl_graph.specs.Numbers.{next}
use Rattle.dl_fill.specs.Counters.{AreNodes, hit}
use Rattle.dl_fill.specs.Wires.{through}
use Rattle.dl_fill.proofs.queue.follow.Given as goal

abbrev pub invariant-loop-at : goal.invariant-loop-at
invariant-loop-at l = record {
  made : fold hit l.counters l.hits.items ≡ fold hit (fold hit l.fn.counters l.fn.hits.items) (take l.at (through l.width l.to (next l.net l.link l.from)));
  waits : AreNodes l.counters l.hits.items;
  «end» : l.at-end ≡ length (next l.net l.link l.from);
}
