use Rattle.dl_sessions.specs.Ending.{MayServe}
use Rattle.dl_sessions.proofs.Lists.{all_popped}
use Rattle.dl_sessions.proofs.jobs.+make_jobs.Goals as goal

pub make_jobs-jobs-requires-clause-seats : goal.make_jobs-jobs-requires-clause-seats
make_jobs-jobs-requires-clause-seats g t c κs within =
    (all_popped (MayServe c.args.desk.now) _ _ _ c.in-Some-Some-Some.ensures.items c.requires.seats).0

pub invariant_of-push_reserved : goal.invariant_of-push_reserved
invariant_of-push_reserved g t c =
    let last = (all_popped (MayServe c.args.desk.now) _ _ _ c.in-Some-Some-Some.ensures.items c.requires.seats).1 in
    record { belongs = last.place; may = last.may }
