use Rattle.std.proofs.Common.{ℕ, ◌<◌, List, Option, Some, refl, sym, subst, ◌∙◌}
use Rattle.dl_lines.specs.Laws.{calls_left}
use Rattle.dl_lines.specs.Reading.{Reading}
use Rattle.dl_session.specs.Ends.{IsSession}
use Rattle.dl_session.specs.Serving.{HandsOnBy}
use Rattle.dl_session.proofs.Handing.{next_handed}
use Rattle.dl_session.proofs.Rounds.{short_line, goes_on, fewer_left, quiet, ends, cause, cause_from}
use Rattle.dl_session.proofs.Seats.{may_call}
use Rattle.dl_session.proofs.Sessions.{SoFar, so_far_none}
use Rattle.dl_session.proofs.session.serve_session.Goals as goal

pub serving-init : goal.serving-init
serving-init g c = record {
  belongs = c.requires.belongs;
  may = c.requires.may;
  so_far = so_far_none _ _ _ _ _ c.requires.may.within c.clear.ensures.lines c.clear.ensures.table;
  handed = λ whole. whole;
  read_faults = refl;
  write_faults = refl;
  source_name = refl;
  sink_name = refl;
}

pub serve_next-requires-clause-short : goal.serve_next-requires-clause-short
serve_next-requires-clause-short g c =
    short_line g.I.Source.rest g.I.Source.faults (g.I.Source.rest c.args.source.now) c.serving.source c.next_line-next.new.source (g.P.Sink.written c.args.sink.now) (g.P.Sink.written c.serving.sink)
    (g.P.Sink.written c.serving.sink) (g.P.Sink.faults c.serving.sink) (g.P.Sink.faults c.serving.sink) c.args.seat.now c.serving.seat c.serving.seat c.serving.room.lines c.next_line-next.new.self
    c.next_line-next.result c.serving.room.table.editions c.serving.room.table.editions c.serving.invariant.so_far c.next_line-next.ensures.next c.next_line-next.ensures.cause c.next_line-next.ensures.over

pub returns-in-Some-clause-session : goal.returns-in-Some-clause-session
returns-in-Some-clause-session g c =
    ends g.I.Source.rest g.I.Source.faults (g.I.Source.rest c.args.source.now) c.serving.source c.next_line-next.new.source (g.P.Sink.written c.args.sink.now) (g.P.Sink.written c.serving.sink)
    (g.P.Sink.written c.serve_next.new.sink) (g.P.Sink.faults c.serving.sink) (g.P.Sink.faults c.serve_next.new.sink) c.args.seat.now c.serving.seat c.serve_next.new.seat c.serving.room.lines c.next_line-next.new.self
    c.next_line-next.result c.serving.room.table.editions c.serve_next.new.room.table.editions c.serving.invariant.so_far c.next_line-next.ensures.next c.next_line-next.ensures.cause c.next_line-next.ensures.over
    c.in-Some.end (c.in-Some.ensures.serves c.serving.invariant.so_far.entries c.serving.invariant.so_far.keeps)

pub returns-in-Some-clause-handed : goal.returns-in-Some-clause-handed
returns-in-Some-clause-handed g c = λ whole.
    let kept = c.serving.invariant.handed whole in
    let all = subst (λ (w : Option (List ℕ)). HandsOnBy w (g.P.Sink.handed c.serve_next.new.sink) (g.P.Sink.written c.serve_next.new.sink) (Some c.in-Some.end)) kept (c.in-Some.ensures.handed kept) in
    subst (λ (w : Option (List ℕ)). IsSession (g.I.Source.rest c.args.source.now) (g.I.Source.rest c.next_line-next.new.source) w (g.P.Sink.handed c.serve_next.new.sink) c.args.seat.now c.serve_next.new.seat c.in-Some.end)
    (sym whole)
    (ends g.I.Source.rest g.I.Source.faults (g.I.Source.rest c.args.source.now) c.serving.source c.next_line-next.new.source (g.P.Sink.written c.args.sink.now) (g.P.Sink.written c.serving.sink)
    (g.P.Sink.handed c.serve_next.new.sink) (g.P.Sink.faults c.serving.sink) (g.P.Sink.faults c.serve_next.new.sink) c.args.seat.now c.serving.seat c.serve_next.new.seat c.serving.room.lines c.next_line-next.new.self
    c.next_line-next.result c.serving.room.table.editions c.serve_next.new.room.table.editions c.serving.invariant.so_far c.next_line-next.ensures.next c.next_line-next.ensures.cause c.next_line-next.ensures.over
    c.in-Some.end
    (next_handed c.serving.seat c.serve_next.new.seat c.serving.invariant.so_far.entries c.serve_next.new.room.table.editions (g.P.Sink.written c.serving.sink) (g.P.Sink.written c.serve_next.new.sink)
    (g.P.Sink.handed c.serve_next.new.sink) _ _ _ _ _ all (c.in-Some.ensures.serves c.serving.invariant.so_far.entries c.serving.invariant.so_far.keeps)))

pub returns-in-Some-clause-cause : goal.returns-in-Some-clause-cause
returns-in-Some-clause-cause g c =
    cause_from _ _ _ _ _ _ c.in-Some.end c.serving.invariant.read_faults c.serving.invariant.write_faults
    (cause g.I.Source.rest g.I.Source.faults (g.I.Source.rest c.args.source.now) c.serving.source c.next_line-next.new.source (g.P.Sink.written c.args.sink.now) (g.P.Sink.written c.serving.sink)
    (g.P.Sink.written c.serve_next.new.sink) (g.P.Sink.faults c.serving.sink) (g.P.Sink.faults c.serve_next.new.sink) c.args.seat.now c.serving.seat c.serve_next.new.seat c.serving.room.lines c.next_line-next.new.self
    c.next_line-next.result c.serving.room.table.editions c.serve_next.new.room.table.editions c.serving.invariant.so_far c.next_line-next.ensures.next c.next_line-next.ensures.cause c.next_line-next.ensures.over
    c.in-Some.end (c.in-Some.ensures.serves c.serving.invariant.so_far.entries c.serving.invariant.so_far.keeps))

pub serving-preserved : goal.serving-preserved
serving-preserved g c =
    let so = goes_on g.I.Source.rest g.I.Source.faults (g.I.Source.rest c.args.source.now) c.serving.source c.next_line-next.new.source (g.P.Sink.written c.args.sink.now) (g.P.Sink.written c.serving.sink)
    (g.P.Sink.written c.serve_next.new.sink) (g.P.Sink.faults c.serving.sink) (g.P.Sink.faults c.serve_next.new.sink) c.args.seat.now c.serving.seat c.serve_next.new.seat c.serving.room.lines c.next_line-next.new.self
    c.next_line-next.result c.serving.room.table.editions c.serve_next.new.room.table.editions c.serving.invariant.so_far c.next_line-next.ensures.next c.next_line-next.ensures.cause c.next_line-next.ensures.over
    (c.in_default.ensures.serves c.serving.invariant.so_far.entries c.serving.invariant.so_far.keeps) in
    let counts = quiet g.I.Source.rest g.I.Source.faults (g.I.Source.rest c.args.source.now) c.serving.source c.next_line-next.new.source (g.P.Sink.written c.args.sink.now) (g.P.Sink.written c.serving.sink)
    (g.P.Sink.written c.serve_next.new.sink) (g.P.Sink.faults c.serving.sink) (g.P.Sink.faults c.serve_next.new.sink) c.args.seat.now c.serving.seat c.serve_next.new.seat c.serving.room.lines c.next_line-next.new.self
    c.next_line-next.result c.serving.room.table.editions c.serve_next.new.room.table.editions c.serving.invariant.so_far c.next_line-next.ensures.next c.next_line-next.ensures.cause c.next_line-next.ensures.over
    (c.in_default.ensures.serves c.serving.invariant.so_far.entries c.serving.invariant.so_far.keeps) in
    let lines = sym c.serve_next.ensures.lines in
    record {
      belongs = c.serve_next.ensures.belongs;
      may = may_call c.args.seat.now c.serve_next.new.seat so.entries c.requires.may so.advances;
      so_far = subst (λ (r : Reading). SoFar (g.I.Source.rest c.args.source.now) (g.I.Source.rest c.next_line-next.new.source) (g.P.Sink.written c.args.sink.now) (g.P.Sink.written c.serve_next.new.sink)
          c.args.seat.now c.serve_next.new.seat r c.serve_next.new.room.table.editions) lines so;
      handed = λ whole. c.in_default.ensures.handed (c.serving.invariant.handed whole);
      read_faults = counts.0 ∙ c.serving.invariant.read_faults;
      write_faults = counts.1 ∙ c.serving.invariant.write_faults;
      source_name = c.next_line-next.ensures.name ∙ c.serving.invariant.source_name;
      sink_name = c.serve_next.ensures.name ∙ c.serving.invariant.sink_name;
    }

pub serving-smaller : goal.serving-smaller
serving-smaller g c =
    let fewer = fewer_left g.I.Source.rest g.I.Source.faults (g.I.Source.rest c.args.source.now) c.serving.source c.next_line-next.new.source (g.P.Sink.written c.args.sink.now) (g.P.Sink.written c.serving.sink)
    (g.P.Sink.written c.serve_next.new.sink) (g.P.Sink.faults c.serving.sink) (g.P.Sink.faults c.serve_next.new.sink) c.args.seat.now c.serving.seat c.serve_next.new.seat c.serving.room.lines c.next_line-next.new.self
    c.next_line-next.result c.serving.room.table.editions c.serve_next.new.room.table.editions c.serving.invariant.so_far c.next_line-next.ensures.next c.next_line-next.ensures.cause c.next_line-next.ensures.over
    (c.in_default.ensures.serves c.serving.invariant.so_far.entries c.serving.invariant.so_far.keeps) in
    subst (λ (r : Reading). calls_left r < calls_left c.serving.room.lines) (sym c.serve_next.ensures.lines) fewer
