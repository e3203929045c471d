use Rattle.dl_theory.proofs.WellFormed.{absent_fact}
use Rattle.dl_check.proofs.checker.append_fact.Goals as goal

pub returns : goal.returns
returns c = rw c.in_ok-insert.ensures.keys (rw (absent_fact c.args.facts.now.keys c.args.fact c.requires))
