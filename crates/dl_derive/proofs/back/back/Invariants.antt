use Rattle.dl_derive.proofs.Resting.{IsGathered}
use Rattle.dl_derive.proofs.back.back.Given as goal

abbrev pub invariant-loop-at : goal.invariant-loop-at
invariant-loop-at l = record {
  gathered : IsGathered l.net l.number l.at l.found;
}
