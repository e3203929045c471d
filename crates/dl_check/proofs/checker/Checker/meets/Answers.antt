use Rattle.std.proofs.Common.{◌∙◌, ap, sym}
use Rattle.std.proofs.lemmas.Result.{IfOk-weaker}
use Rattle.dl_lit.specs.declared.literal.Family.{Family}
use Rattle.dl_theory.specs.Tests as test
use Rattle.dl_check.specs.Derived.{is_derived}
use Rattle.dl_check.proofs.Rows.{definite_is}
use Rattle.dl_check.proofs.Families.{blocking_is, propagating_is}
use Rattle.dl_check.proofs.checker.Checker.meets.Goals as goal

pub returns-in-Definite : goal.returns-in-Definite
returns-in-Definite c = λ T s.
    let x = c.args.x.now in
    let got = is_derived c.args.derived.now in
    c.definite.ensures ∙ definite_is c.args.self.now T s got x.plus x.literal
    ∙ ap (λ (f : Family). test.condition T got x.plus f x.literal) (sym c.in-Definite.is)

pub returns-in-Blocking : goal.returns-in-Blocking
returns-in-Blocking c =
    let x = c.args.x.now in
    let got = is_derived c.args.derived.now in
    IfOk-weaker c.defeasible.result _ _
    (λ b h T s. h T s ∙ blocking_is T got x.plus x.literal ∙ ap (λ (f : Family). test.condition T got x.plus f x.literal) (sym c.in-Blocking.is))
    c.defeasible.ensures

pub returns-in-Propagating : goal.returns-in-Propagating
returns-in-Propagating c =
    let x = c.args.x.now in
    let got = is_derived c.args.derived.now in
    IfOk-weaker c.defeasible-in-Propagating.result _ _
    (λ b h T s. h T s ∙ propagating_is T got x.plus x.literal ∙ ap (λ (f : Family). test.condition T got x.plus f x.literal) (sym c.in-Propagating.is))
    c.defeasible-in-Propagating.ensures
