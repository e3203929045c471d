use Rattle.std.proofs.Common.{◌≡◌, take}
use Rattle.dl_graph.specs.Counting.{times}
use Rattle.dl_derive.proofs.way.cut_behind.Given as goal

abbrev pub invariant-loop-place : goal.invariant-loop-place
invariant-loop-place l = record {
  same : l.nodes.items ≡ l.fn.nodes.items;
  later : times l.node (take l.place l.fn.nodes.items) ≡ 0;
}
