use Rattle.dl_lit.specs.Literal.{literal_eq}
use Rattle.dl_lit.specs.Order.{literal_eq-Decides}
use Rattle.dl_theory.proofs.Places.{not_new}
use Rattle.dl_theory.proofs.theory.insert.Goals as goal

pub returns-clause-new : goal.returns-clause-new
returns-clause-new c = not_new literal_eq literal_eq-Decides c.args.facts.now.keys c.args.fact c.in_ok-new.new c.in_ok-new.ensures.added
