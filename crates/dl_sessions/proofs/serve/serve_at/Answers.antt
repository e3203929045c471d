use Rattle.dl_sessions.specs.Served.{told}
use Rattle.dl_sessions.proofs.Closing.{all_may_serve, all_ended, all_may_join}
use Rattle.dl_sessions.proofs.serve.serve_at.Goals as goal

pub make_jobs-jobs-requires-clause-seats : goal.make_jobs-jobs-requires-clause-seats
make_jobs-jobs-requires-clause-seats g c κs within = all_may_serve c.args.desk.now c.args.base.now.start 0 c.args.seats.items c.requires.seats

pub join_all-requires-clause-done : goal.join_all-requires-clause-done
join_all-requires-clause-done g c κs within =
    let told = told g.I.Source.rest g.I.Source.faults g.I.Source.name g.P.Sink.written g.P.Sink.handed g.P.Sink.faults g.P.Sink.name in
    all_may_join c.args.desk.now c.args.base.now.start (λ s. told s.0 s.1) (λ d. told d.source d.sink) (λ d. d.seat) (λ d. d.end) (λ j. j.seat) (λ j. (j.source, j.sink))
    c.make_jobs-jobs.result.items c.in-Ok-serve_all.done.items c.args.seats.items c.args.streams.items c.requires.seats
    c.make_jobs-jobs.ensures.seats c.make_jobs-jobs.ensures.streams c.in-Ok-serve_all.ensures.0

pub returns-in-Ok-serve_all-clause-served : goal.returns-in-Ok-serve_all-clause-served
returns-in-Ok-serve_all-clause-served g c =
    let told = told g.I.Source.rest g.I.Source.faults g.I.Source.name g.P.Sink.written g.P.Sink.handed g.P.Sink.faults g.P.Sink.name in
    c.join_all.ensures.served c.args.base.now.start c.args.streams.items
    (all_ended c.args.desk.now c.args.base.now.start (λ s. told s.0 s.1) (λ d. told d.source d.sink) (λ d. d.seat) (λ d. d.end) (λ j. j.seat) (λ j. (j.source, j.sink))
    c.make_jobs-jobs.result.items c.in-Ok-serve_all.done.items c.args.seats.items c.args.streams.items c.requires.seats
    c.make_jobs-jobs.ensures.seats c.make_jobs-jobs.ensures.streams c.in-Ok-serve_all.ensures.0)
