use Rattle.std.proofs.Common.{ℕ, ◌-◌, ◌<◌, length, take}
use Rattle.dl_graph.specs.Counting.{times}
use Rattle.dl_graph.specs.Numbers.{heads, literal_at, attackers_row}
use Rattle.dl_fill.specs.Touched.{Grows}
use Rattle.dl_fill.proofs.touch.touch_against.Given as goal

abbrev pub invariant-loop-attacker : goal.invariant-loop-attacker
invariant-loop-attacker l = record {
  there : (c : ℕ) → 0 < times c (take l.at (attackers_row l.net (literal_at l.net l.number))) → (u : ℕ) → 0 < times u (heads l.net c) → 0 < times u l.rules.members;
  grows : Grows l.fn.rules l.rules;
}

abbrev pub decreases-loop-attacker : goal.decreases-loop-attacker
decreases-loop-attacker l = length (attackers_row l.net (literal_at l.net l.number)) - l.at
