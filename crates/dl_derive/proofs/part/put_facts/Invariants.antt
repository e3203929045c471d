use Rattle.std.proofs.Common.{◌≡◌}
use Rattle.dl_derive.proofs.Cutting.{HasFacts}
use Rattle.dl_derive.proofs.part.put_facts.Given as goal

abbrev pub invariant-loop-at : goal.invariant-loop-at
invariant-loop-at l = record {
  facts : HasFacts l.net l.found.members l.at l.theory.facts;
  rules : l.theory.rules ≡ l.fn.theory.rules;
  pairs : l.theory.pairs ≡ l.fn.theory.pairs;
}
