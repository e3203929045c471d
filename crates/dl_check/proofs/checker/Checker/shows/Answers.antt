use Rattle.dl_check.proofs.checker.Checker.shows.Goals as goal

pub returns-in-Neither-verdict : goal.returns-in-Neither-verdict
returns-in-Neither-verdict c = rw (c.in-Gap.is, c.in-Neither-verdict.is) c.leaves_open.ensures
