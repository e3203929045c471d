use Rattle.std.proofs.Common.{◌/◌, ◌%◌, ◌-◌, ◌≤◌, length, take}
use Rattle.dl_fill.specs.Before.{before_of, is_inside}
use Rattle.dl_fill.specs.Wires.{inputs}
use Rattle.dl_fill.specs.Prepared.{Begins, all_nodes}
use Rattle.dl_fill.proofs.whole_run.begin_places.Given as goal

abbrev pub invariant-loop-at : goal.invariant-loop-at
invariant-loop-at g l = record {
  begins : Begins (inputs l.net (is_inside l.region.members) l.width l.wires) (λ y. g.G.Gates.tells l.gates l.net (before_of l.marks l.region) (y % l.width) (y / l.width))
      (all_nodes l.width l.from l.count (take l.at l.all.members)) l.fn.counters l.counters;
  within : l.at ≤ length l.all.members;
}

abbrev pub decreases-loop-at : goal.decreases-loop-at
decreases-loop-at g l = length l.all.members - l.at
