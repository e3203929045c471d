use Rattle.std.proofs.Common.{◌≡◌, take}
use Rattle.std.specs.List.{fold, flat_map}
use Rattle.dl_fill.specs.Counters.{AreNodes, hit}
use Rattle.dl_fill.specs.Wires.{edges_by}
use Rattle.dl_fill.proofs.queue.fire.Given as goal

abbrev pub invariant-loop-w : goal.invariant-loop-w
invariant-loop-w l = record {
  made : fold hit l.counters l.hits.items ≡ fold hit (fold hit l.fn.counters l.fn.hits.items) (flat_map (edges_by l.net l.width l.node) (take l.w-index l.wires));
  waits : AreNodes l.counters l.hits.items;
}
