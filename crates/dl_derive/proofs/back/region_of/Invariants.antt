use Rattle.std.proofs.Common.{◌≡◌, take}
use Rattle.dl_derive.proofs.back.region_of.Given as goal

abbrev pub invariant-loop-at : goal.invariant-loop-at
invariant-loop-at l = record {
  bound : l.region.bound ≡ l.found.bound;
  members : l.region.members ≡ take l.at l.found.members;
}
