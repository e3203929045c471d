use Rattle.std.proofs.Common.{sym, ◌∙◌, subst}
use Rattle.dl_lit.specs.declared.literal.Literal.{Literal}
use Rattle.dl_theory.specs.Verdicts.{Fits}
use Rattle.dl_derive.proofs.Answered.{found}
use Rattle.dl_derive.proofs.whole.certify_whole.Goals as goal

pub returns-in_ok-answer-in-Some : goal.returns-in_ok-answer-in-Some
returns-in_ok-answer-in-Some c =
    let there = found c.args.net.now c.args.literal.now c.in-Some.number (sym c.find.ensures.number ∙ c.in-Some.is) in
    subst (λ (q : Literal). Fits c.args.net.now.theory c.args.family q c.in_ok-answer-in-Some.answer) there.1 c.in_ok-answer-in-Some.ensures
