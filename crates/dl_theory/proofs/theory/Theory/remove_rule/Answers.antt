use Rattle.std.proofs.Common.{List, sym, subst}
use Rattle.dl_theory.specs.declared.rule.Rule.{Rule}
use Rattle.dl_theory.specs.declared.rule.Pair.{Pair}
use Rattle.dl_theory.specs.declared.edit.Edit.TheVariants.{DropRule}
use Rattle.dl_theory.specs.Lists.{TheoryLists, IsWellFormed}
use Rattle.dl_theory.specs.Edits.{after_edit}
use Rattle.dl_theory.specs.Kept.{lists_of}
use Rattle.dl_theory.proofs.WellFormed.{drop_rule_keeps}
use Rattle.dl_theory.proofs.theory.Theory.remove_rule.Goals as goal

pub invariant_of-self : goal.invariant_of-self
invariant_of-self c =
    let T : TheoryLists = lists_of c.self.inside in
    let after : TheoryLists = after_edit T (DropRule c.args.label.now) in
    subst (λ (rules : List Rule). IsWellFormed (record T { rules = rules; pairs = c.drop_label-2.new.self })) (sym c.drop_label.ensures.dropped)
    (subst (λ (pairs : List Pair). IsWellFormed (record after { pairs = pairs })) (sym c.drop_label-2.ensures)
    (drop_rule_keeps T c.args.label.now c.self.invariant))
