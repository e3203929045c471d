use Rattle.std.proofs.Common.{◌≡◌, ◌-◌, true, length, drop}
use Rattle.std.specs.List.{list_any}
use Rattle.dl_lit.specs.declared.literal.Family.TheVariants.{Definite}
use Rattle.dl_marks.specs.Marks.{marked}
use Rattle.dl_graph.specs.Numbers.{attackers_row, literal_at}
use Rattle.dl_fill.specs.Before.{tag_of, attack_holds}
use Rattle.dl_fill.proofs.attack.attack_holds.Given as goal

abbrev pub invariant-loop-attacker : goal.invariant-loop-attacker
invariant-loop-attacker l = record {
  rest : attack_holds l.net (marked l.marks) l.number
      ≡ list_any (λ c. marked l.marks (tag_of true Definite) c) (drop l.at (attackers_row l.net (literal_at l.net l.number)));
}

abbrev pub decreases-loop-attacker : goal.decreases-loop-attacker
decreases-loop-attacker l = length (attackers_row l.net (literal_at l.net l.number)) - l.at
