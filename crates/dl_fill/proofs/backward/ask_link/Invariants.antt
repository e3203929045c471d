use Rattle.std.proofs.Common.{◌≡◌, length, take}
use Rattle.std.specs.List.{fold}
use Rattle.dl_graph.specs.Numbers.{next}
use Rattle.dl_fill.specs.Pruned.{serve}
use Rattle.dl_fill.specs.Wires.{through}
use Rattle.dl_fill.proofs.backward.ask_link.Given as goal

abbrev pub invariant-loop-at : goal.invariant-loop-at
invariant-loop-at l = record {
  needs : l.needs ≡ fold serve l.fn.needs (take l.at (through l.width l.to (next l.net l.link l.from)));
  size : length l.needs.needs ≡ length l.fn.needs.needs;
  «end» : l.at-end ≡ length (next l.net l.link l.from);
}
