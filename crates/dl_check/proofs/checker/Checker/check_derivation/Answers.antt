use Rattle.std.proofs.Common.{List, subst}
use Rattle.dl_lit.specs.declared.literal.Tagged.{Tagged}
use Rattle.dl_check.specs.Flaws.{AnswersDerivation}
use Rattle.dl_check.proofs.FirstFlaws.{derivation_accepted, derivation_rejected}
use Rattle.dl_check.proofs.Answered.{accepted_follow}
use Rattle.dl_check.proofs.checker.Checker.check_derivation.Goals as goal

pub returns-clause-answer : goal.returns-clause-answer
returns-clause-answer c = λ T s. subst (λ (l : List Tagged). AnswersDerivation T l c.walk_derivation.result) c.as_slice.ensures (c.walk_derivation.ensures T s)

pub returns-clause-follow : goal.returns-clause-follow
returns-clause-follow c =
    accepted_follow c.args.self.now c.args.list.now c.walk_derivation.result
    (λ T s. subst (λ (l : List Tagged). AnswersDerivation T l c.walk_derivation.result) c.as_slice.ensures (c.walk_derivation.ensures T s))

pub returns-clause-accepts : goal.returns-clause-accepts
returns-clause-accepts c = λ T s h some. derivation_accepted T c.args.list.now c.walk_derivation.result (subst (λ (l : List Tagged). AnswersDerivation T l c.walk_derivation.result) c.as_slice.ensures (c.walk_derivation.ensures T s)) h some

pub returns-clause-rejects : goal.returns-clause-rejects
returns-clause-rejects c = λ T flaw s h. derivation_rejected T c.args.list.now c.walk_derivation.result flaw (subst (λ (l : List Tagged). AnswersDerivation T l c.walk_derivation.result) c.as_slice.ensures (c.walk_derivation.ensures T s)) h
