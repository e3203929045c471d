use Rattle.std.proofs.Common.{subst}
use Rattle.dl_theory.specs.declared.edit.Edit.{Edit}
use Rattle.dl_theory.specs.Lists.{TheoryLists}
use Rattle.dl_update.specs.Bound.{IsWithinCone}
use Rattle.dl_logic_tests.specs.Costs.{pair_apart}
use Rattle.dl_logic_tests.proofs.Bare.{none_for_pair}
use Rattle.dl_logic_tests.proofs.costs.add_pair.Goals as goal

pub returns : goal.returns
returns g c = λ theory edit.
    none_for_pair c.args.draft.now.names c.args.steps.now c.touch_known.new.steps
    (subst (λ (T : TheoryLists). IsWithinCone T c.args.draft.now.names pair_apart c.args.steps.now c.touch_known.new.steps) theory
    (subst (λ (e : Edit). IsWithinCone c.args.draft.now.theory c.args.draft.now.names e c.args.steps.now c.touch_known.new.steps) edit c.touch_known.ensures.steps))
