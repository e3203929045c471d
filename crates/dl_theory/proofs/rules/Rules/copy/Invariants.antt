use Rattle.std.proofs.Common.{◌≡◌, take}
use Rattle.dl_theory.proofs.rules.Rules.copy.Given as goal

abbrev pub invariant-loop-rule : goal.invariant-loop-rule
invariant-loop-rule l = l.copy ≡ take l.rule-index l.rule-items
