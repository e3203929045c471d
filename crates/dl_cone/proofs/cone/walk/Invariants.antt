use Rattle.dl_theory.specs.Cones.{IsSeed, RaisesTo}
use Rattle.dl_cone.proofs.Gathering.{IsGathered}
use Rattle.dl_cone.proofs.cone.walk.Given as goal

abbrev pub invariant-loop-at : goal.invariant-loop-at
invariant-loop-at l = record {
  gathered : IsGathered l.net (IsSeed l.net.theory l.edit) (RaisesTo l.net.theory) l.at l.region;
}
