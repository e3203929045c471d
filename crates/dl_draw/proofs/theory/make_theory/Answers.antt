use Rattle.std.proofs.Common.{sym, ap, subst, ◌∙◌}
use Rattle.dl_theory.specs.Lists.{IsWellFormed}
use Rattle.dl_draw.specs.Generator.{draw_lists}
use Rattle.dl_draw.proofs.Fronts.{generated_well_formed}
use Rattle.dl_draw.proofs.theory.make_theory.Goals as goal

pub returns-in_err-lists-clause-well_formed : goal.returns-in_err-lists-clause-well_formed
returns-in_err-lists-clause-well_formed c = generated_well_formed c.args.seed c.args.size c.requires

pub load-requires : goal.load-requires
load-requires c =
    let drawn = c.in_ok-lists.ensures.0 ∙ ap (λ x. (draw_lists c.args.size x).value) c.make-draws.ensures in
    subst IsWellFormed (sym drawn) (generated_well_formed c.args.seed c.args.size c.requires)

pub returns-clause-well_formed : goal.returns-clause-well_formed
returns-clause-well_formed c = generated_well_formed c.args.seed c.args.size c.requires
