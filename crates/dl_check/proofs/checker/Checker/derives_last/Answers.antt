use Rattle.std.proofs.Common.{List, subst}
use Rattle.std.proofs.lemmas.Result.{IfOk-weaker}
use Rattle.dl_lit.specs.declared.literal.Tagged.{Tagged}
use Rattle.dl_lit.specs.Literal.{tagged}
use Rattle.dl_check.specs.Accepting.{EndsWith}
use Rattle.dl_check.proofs.Accepting.{derives_decided}
use Rattle.dl_check.proofs.checker.Checker.derives_last.Goals as goal

pub returns : goal.returns
returns c =
    let x = tagged c.args.plus c.args.family c.args.literal.now in
    let ends = subst (λ (l : List Tagged). EndsWith l x) c.as_slice.ensures (c.ends_with.ensures.0 c.if-not-ends_with.false) in
    IfOk-weaker c.is_accepted.result _ _
    (λ b told T s. derives_decided T x c.args.steps.now c.check_derivation.result b ends (c.check_derivation.ensures.answer T s) told)
    c.is_accepted.ensures
