use Rattle.std.proofs.Common.{◌/◌, ◌%◌}
use Rattle.dl_fill.specs.Before.{before_of, is_inside}
use Rattle.dl_fill.specs.Wires.{inputs}
use Rattle.dl_fill.specs.Prepared.{Begins, nodes_at}
use Rattle.dl_fill.proofs.whole_run.begin_place.Given as goal

abbrev pub invariant-loop-k : goal.invariant-loop-k
invariant-loop-k g l = record {
  begins : Begins (inputs l.net (is_inside l.region.members) l.width l.wires) (λ y. g.G.Gates.tells l.gates l.net (before_of l.marks l.region) (y % l.width) (y / l.width))
      (nodes_at l.width l.from l.k l.place) l.fn.counters l.counters;
}
