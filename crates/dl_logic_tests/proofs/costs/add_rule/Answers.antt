use Rattle.std.proofs.Common.{subst}
use Rattle.dl_theory.specs.declared.edit.Edit.{Edit}
use Rattle.dl_theory.specs.Lists.{TheoryLists}
use Rattle.dl_update.specs.Bound.{IsWithinCone}
use Rattle.dl_logic_tests.specs.Costs.{rule_c}
use Rattle.dl_logic_tests.proofs.Bare.{few_for_rule}
use Rattle.dl_logic_tests.proofs.costs.add_rule.Goals as goal

pub returns : goal.returns
returns g c = λ theory edit.
    few_for_rule c.args.draft.now.names c.args.steps.now c.touch_known.new.steps
    c.touch_known.ensures.complements
    (subst (λ (T : TheoryLists). IsWithinCone T c.args.draft.now.names rule_c c.args.steps.now c.touch_known.new.steps) theory
    (subst (λ (e : Edit). IsWithinCone c.args.draft.now.theory c.args.draft.now.names e c.args.steps.now c.touch_known.new.steps) edit c.touch_known.ensures.steps))
