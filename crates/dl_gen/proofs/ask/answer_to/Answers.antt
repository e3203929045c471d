use Rattle.std.proofs.Common.{Option, Ok, ap, subst}
use Rattle.std.specs.Prelude.{IfSome}
use Rattle.dl_theory.specs.Verdicts.{IsVerdict}
use Rattle.dl_check.specs.declared.accepted.Accepted.{Accepted}
use Rattle.dl_check.specs.Accepting.{AnswersCheck}
use Rattle.dl_gen.proofs.ask.answer_to.Goals as goal

pub returns : goal.returns
returns c =
    let T = c.args.held.now.theory in
    let f = c.args.family in
    let q = c.args.literal.now in
    let same = (subst (λ (r : Option Accepted). AnswersCheck T f q c.in_ok-answer.answer (Ok r)) c.in-Some.is (c.in_ok-accepted.ensures.answer T c.requires)).0 in
    record {
      family = ap (λ (a : Accepted). a.family) same;
      literal = ap (λ (a : Accepted). a.literal) same;
      right = subst (λ (r : Option Accepted). IfSome r (λ a. IsVerdict T f q a.verdict)) c.in-Some.is (c.in_ok-accepted.ensures.holds T c.requires);
    }
