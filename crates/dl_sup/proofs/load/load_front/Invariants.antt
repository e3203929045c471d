use Rattle.std.proofs.Common.{◌≤◌, ◌-◌, length}
use Rattle.dl_sup.specs.Loading.{HasFront}
use Rattle.dl_sup.proofs.load.load_front.Given as goal

abbrev pub invariant-loop-low : goal.invariant-loop-low
invariant-loop-low l = record {
  front : HasFront l.base l.links l.best l.low;
  within : l.high ≤ length l.links;
}

abbrev pub decreases-loop-low : goal.decreases-loop-low
decreases-loop-low l = l.high - l.low
