use Rattle.std.proofs.Common.{◌≡◌, length, take}
use Rattle.std.specs.List.{fold, flat_map}
use Rattle.dl_fill.specs.Pruned.{serve}
use Rattle.dl_fill.specs.Wires.{edges_by}
use Rattle.dl_fill.proofs.backward.ask.Given as goal

abbrev pub invariant-loop-w : goal.invariant-loop-w
invariant-loop-w l = record {
  needs : l.needs ≡ fold serve l.fn.needs (flat_map (edges_by l.net l.width l.node) (take l.w-index l.wires));
  size : length l.needs.needs ≡ length l.fn.needs.needs;
}
