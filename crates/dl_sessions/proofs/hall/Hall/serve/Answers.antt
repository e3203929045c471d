use Rattle.std.proofs.Common.{ap, arith}
use Rattle.dl_sessions.specs.Served.{told}
use Rattle.dl_sessions.proofs.Closing.{are_served}
use Rattle.dl_sessions.proofs.hall.Hall.serve.Goals as goal

pub returns-in-Ok-clause-served : goal.returns-in-Ok-clause-served
returns-in-Ok-clause-served g c =
    let told = told g.I.Source.rest g.I.Source.faults g.I.Source.name g.P.Sink.written g.P.Sink.handed g.P.Sink.faults g.P.Sink.name in
    let ready = c.self.invariant.0 in
    are_served (λ s. told s.0 s.1) (λ s. told s.source s.sink) (λ s. s.end) c.self.inside.base.start c.args.self.start c.serve_at.new.base c.args.streams.items c.in-Ok.sessions.items
    c.closed-board.result.history c.closed-board.result.enrolled c.self.inside.share.amount (ap (λ h. h.start) c.self.view_is) c.serve_at.ensures.start
    c.closed-board.ensures.closes c.in-Ok.ensures.served c.closed-board.ensures.enrolled c.closed-board.ensures.below
    (omega (arith, ready.counted, ap (λ h. h.seats) c.self.view_is, c.requires, c.in-Ok.ensures.count, c.self.inside.seats.ok, c.in-Ok.sessions.ok))
