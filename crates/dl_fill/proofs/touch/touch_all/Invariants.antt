use Rattle.std.proofs.Common.{◌≡◌, ℕ, ◌<◌}
use Rattle.dl_graph.specs.Counting.{times}
use Rattle.dl_fill.proofs.touch.touch_all.Given as goal

abbrev pub invariant-loop-rule : goal.invariant-loop-rule
invariant-loop-rule l = record {
  there : (r : ℕ) → r < l.rule → 0 < times r l.rules.members;
  bound : l.rules.bound ≡ l.fn.rules.bound;
}
