use Rattle.std.proofs.Common.{◌≡◌, ◌-◌, false, length, drop}
use Rattle.std.specs.List.{list_all}
use Rattle.dl_lit.specs.declared.literal.Family.TheVariants.{Definite}
use Rattle.dl_marks.specs.Marks.{marked}
use Rattle.dl_graph.specs.Numbers.{attackers_row, literal_at}
use Rattle.dl_fill.specs.Before.{tag_of, attack_fails}
use Rattle.dl_fill.proofs.attack.attack_fails.Given as goal

abbrev pub invariant-loop-attacker : goal.invariant-loop-attacker
invariant-loop-attacker l = record {
  rest : attack_fails l.net (marked l.marks) l.number
      ≡ list_all (λ c. marked l.marks (tag_of false Definite) c) (drop l.at (attackers_row l.net (literal_at l.net l.number)));
}

abbrev pub decreases-loop-attacker : goal.decreases-loop-attacker
decreases-loop-attacker l = length (attackers_row l.net (literal_at l.net l.number)) - l.at
