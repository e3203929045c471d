use Rattle.std.proofs.Common.{◌∙◌}
use Rattle.std.proofs.lemmas.Map.Made.{is_member-Decides}
use Rattle.dl_base.proofs.Filters.{remove_key_is_filter}
use Rattle.dl_lit.specs.Literal.{literal_eq}
use Rattle.dl_lit.specs.Order.{literal_eq-Decides}
use Rattle.dl_theory.proofs.theory.remove.Goals as goal

pub returns-clause-found : goal.returns-clause-found
returns-clause-found c = rw c.shift_remove.ensures.found (is_member-Decides literal_eq-Decides c.args.facts.now.keys c.args.fact.now)

pub returns-clause-dropped : goal.returns-clause-dropped
returns-clause-dropped c =
    c.shift_remove.ensures.keys ∙ remove_key_is_filter literal_eq literal_eq-Decides c.args.fact.now c.args.facts.now.keys c.requires
