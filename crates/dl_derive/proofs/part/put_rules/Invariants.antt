use Rattle.std.proofs.Common.{◌≡◌}
use Rattle.dl_graph.specs.Numbers.{rule_at}
use Rattle.dl_derive.proofs.Cutting.{HasFront}
use Rattle.dl_derive.proofs.part.put_rules.Given as goal

abbrev pub invariant-loop-at : goal.invariant-loop-at
invariant-loop-at l = record {
  rules : HasFront (rule_at l.net) l.rules.members l.at l.theory.rules;
  facts : l.theory.facts ≡ l.fn.theory.facts;
  pairs : l.theory.pairs ≡ l.fn.theory.pairs;
}
