use Rattle.std.proofs.Common.{◌≡◌, ◌<◌, ◌^◌}
use Rattle.dl_conclusions.specs.Placing.{prefix}
use Rattle.dl_conclusions.proofs.placed.prefix_of.Given as goal

abbrev pub invariant-loop-at : goal.invariant-loop-at
invariant-loop-at l = record {
  is : l.value ≡ prefix l.at l.bytes;
  small : l.value < 256 ^ l.at;
}
