use Rattle.std.proofs.Common.{take}
use Rattle.dl_lit.specs.Literal.{literal_eq}
use Rattle.dl_check.specs.Groups.{IsGrouped}
use Rattle.dl_check.proofs.checker.rules_by_head.Given as goal

abbrev pub invariant-loop-rule : goal.invariant-loop-rule
invariant-loop-rule l = IsGrouped literal_eq (λ r. r.head) (λ r. r) l.groups.groups.entries (take l.rule-index l.rules)
