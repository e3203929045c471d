use Rattle.std.proofs.Common.{◌≡◌, take}
use Rattle.dl_fill.proofs.counters.listed.Given as goal

abbrev pub invariant-loop-node : goal.invariant-loop-node
invariant-loop-node l = record {
  nodes : l.nodes.items ≡ take l.node-index l.queue;
}
