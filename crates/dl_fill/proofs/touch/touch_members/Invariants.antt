use Rattle.std.proofs.Common.{◌≡◌, ◌-◌, ◌≤◌, length, take}
use Rattle.dl_fill.specs.Touched.{Touches}
use Rattle.dl_fill.proofs.touch.touch_members.Given as goal

abbrev pub invariant-loop-at : goal.invariant-loop-at
invariant-loop-at l = record {
  touches : Touches l.net (take l.at l.region.members) l.rules.members;
  bound : l.rules.bound ≡ l.fn.rules.bound;
  within : l.at ≤ length l.region.members;
}

abbrev pub decreases-loop-at : goal.decreases-loop-at
decreases-loop-at l = length l.region.members - l.at
