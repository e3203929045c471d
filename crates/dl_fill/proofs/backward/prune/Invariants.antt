use Rattle.std.proofs.Common.{◌-◌, ◌/◌, ◌%◌, length, take, drop, reverse}
use Rattle.dl_fill.specs.Before.{before_of, is_inside}
use Rattle.dl_fill.specs.Wires.{inputs}
use Rattle.dl_fill.proofs.Pruning.{IsPruning}
use Rattle.dl_fill.proofs.backward.prune.Given as goal

abbrev pub invariant-loop-i : goal.invariant-loop-i
invariant-loop-i g l = record {
  pruning : IsPruning (inputs l.net (is_inside l.region.members) l.width l.wires) (λ y. g.G.Gates.tells l.gates l.net (before_of l.marks l.region) (y % l.width) (y / l.width))
      l.wanted (length l.wanted) (take (length l.nodes - l.i) l.nodes) (drop (length l.nodes - l.i) l.nodes) (reverse l.kept.items) l.needs.needs;
}
