use Rattle.std.proofs.Common.{sym, ◌∙◌}
use Rattle.dl_read.proofs.Openings.{fact_opens, rule_opens}
use Rattle.dl_read.proofs.scanner.labelled.Goals as goal

pub returns-then-is : goal.returns-then-is
returns-then-is c = λ ts. fact_opens c.args.label c.args.mode c.args.token ts (sym c.is.ensures ∙ c.if-is.true)

pub returns-else-is : goal.returns-else-is
returns-else-is c = λ ts. rule_opens c.args.label c.args.mode c.args.token ts (sym c.is.ensures ∙ c.if-is.false)
