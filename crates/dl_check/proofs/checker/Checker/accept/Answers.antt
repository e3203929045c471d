use Rattle.std.proofs.Common.{sym, ◌∙◌}
use Rattle.dl_check.proofs.Accepting.{shown_holds, fits_shown}
use Rattle.dl_check.proofs.checker.Checker.accept.Goals as goal

pub returns-then-not-branch-clause-accepts : goal.returns-then-not-branch-clause-accepts
returns-then-not-branch-clause-accepts c = λ T s fits.
    sym c.if-not-branch.true
    ∙ (c.in_ok-shows.ensures T s).1
    (fits_shown T c.args.family c.args.literal.now c.args.answer.now.verdict c.args.answer.now.certificate fits.verdict fits.certificate)

pub returns-clause-holds : goal.returns-clause-holds
returns-clause-holds c = λ T s.
    shown_holds T c.args.family c.args.literal.now c.args.answer.now.verdict c.args.answer.now.certificate ((c.in_ok-shows.ensures T s).0 c.if-not-branch.false)
