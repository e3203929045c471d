use Rattle.std.proofs.Common.{◌≡◌, length}
use Rattle.dl_rules.proofs.rule_lists.count_uses.Given as goal

abbrev pub invariant-loop-rule : goal.invariant-loop-rule
invariant-loop-rule l = record { wide : length l.counts.items ≡ l.fn.names }
