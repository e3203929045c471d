use Rattle.std.proofs.Common.{refl}
use Rattle.dl_theory.proofs.rules.add_rule.Goals as goal

pub returns-else-branch-clause-added : goal.returns-else-branch-clause-added
returns-else-branch-clause-added c = (refl, c.in_ok-insert_label.ensures.new.0 c.if-branch.false)
