use Rattle.std.proofs.Common.{List, subst}
use Rattle.dl_lit.specs.declared.literal.Tagged.{Tagged}
use Rattle.dl_check.specs.Flaws.{AnswersGap}
use Rattle.dl_check.proofs.FirstFlaws.{gap_accepted, gap_rejected}
use Rattle.dl_check.proofs.Answered.{accepted_unproved}
use Rattle.dl_check.proofs.checker.Checker.check_gap.Goals as goal

pub returns-clause-answer : goal.returns-clause-answer
returns-clause-answer c = λ T s. subst (λ (l : List Tagged). AnswersGap T l c.walk_gap.result) c.as_slice.ensures (c.walk_gap.ensures T s)

pub returns-clause-unproved : goal.returns-clause-unproved
returns-clause-unproved c =
    accepted_unproved c.args.self.now c.args.list.now c.walk_gap.result
    (λ T s. subst (λ (l : List Tagged). AnswersGap T l c.walk_gap.result) c.as_slice.ensures (c.walk_gap.ensures T s))

pub returns-clause-accepts : goal.returns-clause-accepts
returns-clause-accepts c = λ T s h. gap_accepted T c.args.list.now c.walk_gap.result (subst (λ (l : List Tagged). AnswersGap T l c.walk_gap.result) c.as_slice.ensures (c.walk_gap.ensures T s)) h

pub returns-clause-rejects : goal.returns-clause-rejects
returns-clause-rejects c = λ T flaw s h. gap_rejected T c.args.list.now c.walk_gap.result flaw (subst (λ (l : List Tagged). AnswersGap T l c.walk_gap.result) c.as_slice.ensures (c.walk_gap.ensures T s)) h
