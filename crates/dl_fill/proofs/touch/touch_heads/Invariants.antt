use Rattle.std.proofs.Common.{ℕ, ◌-◌, ◌<◌, ◌≤◌, length, take}
use Rattle.dl_graph.specs.Counting.{times}
use Rattle.dl_graph.specs.Numbers.{heads}
use Rattle.dl_fill.specs.Touched.{Grows}
use Rattle.dl_fill.proofs.touch.touch_heads.Given as goal

abbrev pub invariant-loop-rule : goal.invariant-loop-rule
invariant-loop-rule l = record {
  there : (r : ℕ) → 0 < times r (take l.at (heads l.net l.number)) → 0 < times r l.rules.members;
  grows : Grows l.fn.rules l.rules;
  within : l.at ≤ length (heads l.net l.number);
}

abbrev pub decreases-loop-rule : goal.decreases-loop-rule
decreases-loop-rule l = length (heads l.net l.number) - l.at
