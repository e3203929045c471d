use Rattle.std.proofs.Common.{List, sym, subst}
use Rattle.std.specs.Prelude.{Contains, OnOk}
use Rattle.dl_lit.specs.declared.literal.Literal.{Literal}
use Rattle.dl_theory.specs.declared.edit.Edit.{Edit}
use Rattle.dl_net.specs.Edited.{edit_literals}
use Rattle.dl_update.specs.Drafts.{IsNew}
use Rattle.dl_update.proofs.places.collect_edit.Goals as goal

pub returns-in-AddRule-clause-there : goal.returns-in-AddRule-clause-there
returns-in-AddRule-clause-there c =
    let new : List Literal = c.collect_rule.new.names.literals in
    subst (λ (e : Edit). OnOk c.collect_rule.result ((q : Literal) → IsNew c.args.net.now.names (edit_literals e) q → Contains new q)) (sym c.in-AddRule.is)
    c.collect_rule.ensures.there

pub returns-in-AddFact-clause-there : goal.returns-in-AddFact-clause-there
returns-in-AddFact-clause-there c =
    let new : List Literal = c.collect.new.names.literals in
    subst (λ (e : Edit). OnOk c.collect.result ((q : Literal) → IsNew c.args.net.now.names (edit_literals e) q → Contains new q)) (sym c.in-AddFact.is)
    c.collect.ensures.there
