use Rattle.std.proofs.Common.{ℕ, ◌<◌, ◌≢◌, ◌-◌, length, get_or}
use Rattle.dl_graph.specs.Numbers.{attackers_row, literal_at}
use Rattle.dl_cone.proofs.seeds.attacks.Given as goal

abbrev pub invariant-loop-attacker : goal.invariant-loop-attacker
invariant-loop-attacker l = record {
  others : (k : ℕ) → k < l.at → get_or (attackers_row l.net (literal_at l.net l.other)) k l.literal ≢ l.literal;
}

abbrev pub decreases-loop-attacker : goal.decreases-loop-attacker
decreases-loop-attacker l = length (attackers_row l.net (literal_at l.net l.other)) - l.at
