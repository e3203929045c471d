use Rattle.std.proofs.Common.{◌∙◌, List, map, inl, inr, refl, sym, subst, ap, arith}
use Rattle.dl_session.specs.declared.end.End.{End}
use Rattle.dl_sessions.specs.declared.session.Session.{Session}
use Rattle.dl_sessions.specs.Served.{Told, told}
use Rattle.dl_journal.specs.declared.named.Named.{Named}
use Rattle.dl_journal.specs.Journal.{served_text}
use Rattle.dl_journal.specs.Streams.{names_of, settled_all, AreOpen}
use Rattle.dl_serving.specs.Serve.{ends_status}
use Rattle.dl_serving.specs.Serving.{PrintsTo}
use Rattle.dl_serving.proofs.Halls.{closed_of, last_is, ends_are, are_closed, served_open, as_many}
use Rattle.dl_serving.proofs.serving.serve_hall.Goals as goal

pub close-requires-clause-opened : goal.close-requires-clause-opened
close-requires-clause-opened g c κs within =
    let t = told g.H.In.Source.rest g.H.In.Source.faults g.H.In.Source.name g.H.Out.Sink.written g.H.Out.Sink.handed g.H.Out.Sink.faults g.H.Out.Sink.name in
    let before : g.row.H-In.Denot × g.row.H-Out.Denot → Told = λ s. t s.0 s.1 in
    let after : Session g.row.H-In.Denot g.row.H-Out.Denot → Told = λ s. t s.source s.sink in
    let end : Session g.row.H-In.Denot g.row.H-Out.Denot → End = λ s. s.end in
    let streams = c.args.streams.pairs.items in
    let sessions = c.in-Ok.served.sessions.items in
    let house = g.H.House.state c.args.house.now in
    let opened = served_open before after end house (names_of c.args.streams.names.items) c.args.hall.start c.in-Ok.served.board.history 0 streams sessions c.in-Ok.ensures.served.each c.requires.opened in
    subst (λ (l : List Named). AreOpen house (names_of l) (map after sessions)) (sym c.as_slice.ensures.value) opened

pub close-requires-clause-room : goal.close-requires-clause-room
close-requires-clause-room g c κs within =
    let t = told g.H.In.Source.rest g.H.In.Source.faults g.H.In.Source.name g.H.Out.Sink.written g.H.Out.Sink.handed g.H.Out.Sink.faults g.H.Out.Sink.name in
    let before : g.row.H-In.Denot × g.row.H-Out.Denot → Told = λ s. t s.0 s.1 in
    let after : Session g.row.H-In.Denot g.row.H-Out.Denot → Told = λ s. t s.source s.sink in
    let end : Session g.row.H-In.Denot g.row.H-Out.Denot → End = λ s. s.end in
    let streams = c.args.streams.pairs.items in
    let count = as_many before after end c.args.hall.start c.in-Ok.served.board.history 0 streams c.in-Ok.served.sessions.items c.in-Ok.ensures.served.each in
    omega (arith, count, c.requires.room)

pub settle_streams-requires-clause-open : goal.settle_streams-requires-clause-open
settle_streams-requires-clause-open g c κs within =
    let t = told g.H.In.Source.rest g.H.In.Source.faults g.H.In.Source.name g.H.Out.Sink.written g.H.Out.Sink.handed g.H.Out.Sink.faults g.H.Out.Sink.name in
    let before : g.row.H-In.Denot × g.row.H-Out.Denot → Told = λ s. t s.0 s.1 in
    let after : Session g.row.H-In.Denot g.row.H-Out.Denot → Told = λ s. t s.source s.sink in
    let end : Session g.row.H-In.Denot g.row.H-Out.Denot → End = λ s. s.end in
    let streams = c.args.streams.pairs.items in
    let house = g.H.House.state c.args.house.now in
    subst (λ (l : List Named). AreOpen house (names_of l) (map before c.in-Err.pairs.items)) (sym c.as_slice-in-Err.ensures.value)
    (subst (λ (l : List (g.row.H-In.Denot × g.row.H-Out.Denot)). AreOpen house (names_of c.args.streams.names.items) (map before l)) (sym c.in-Err.ensures.streams) c.requires.opened)

pub returns-in-Ok-clause-served : goal.returns-in-Ok-clause-served
returns-in-Ok-clause-served g c =
    let t = told g.H.In.Source.rest g.H.In.Source.faults g.H.In.Source.name g.H.Out.Sink.written g.H.Out.Sink.handed g.H.Out.Sink.faults g.H.Out.Sink.name in
    let before : g.row.H-In.Denot × g.row.H-Out.Denot → Told = λ s. t s.0 s.1 in
    let after : Session g.row.H-In.Denot g.row.H-Out.Denot → Told = λ s. t s.source s.sink in
    let end : Session g.row.H-In.Denot g.row.H-Out.Denot → End = λ s. s.end in
    let streams = c.args.streams.pairs.items in
    let sessions = c.in-Ok.served.sessions.items in
    let history = c.in-Ok.served.board.history in
    let house = g.H.House.state c.args.house.now in
    let sink = c.close.new.sink in
    let ends = ends_are before after end sessions in
    inl (record {
      history = history;
      sessions = map (closed_of before after end) sessions;
      served = are_closed before after end c.args.hall.start streams history sessions c.in-Ok.ensures.served;
      spelled = c.close.ensures.spelled;
      house = c.close.ensures.house ∙ ap (λ (l : List Named). settled_all house (names_of l) (map after sessions)) c.as_slice.ensures.value
          ∙ ap (λ (l : List Told). settled_all house (names_of c.args.streams.names.items) l) (sym (last_is before after end sessions));
      printed = subst (λ (l : List End). PrintsTo g.H.House.tells (g.H.Out.Sink.handed sink) (g.H.Out.Sink.faults sink) (served_text history l) (ends_status l) c.close.result) (sym ends)
          c.close.ensures.printed;
    })

pub returns-clause-served : goal.returns-clause-served
returns-clause-served g c =
    let t = told g.H.In.Source.rest g.H.In.Source.faults g.H.In.Source.name g.H.Out.Sink.written g.H.Out.Sink.handed g.H.Out.Sink.faults g.H.Out.Sink.name in
    let before : g.row.H-In.Denot × g.row.H-Out.Denot → Told = λ s. t s.0 s.1 in
    let after : Session g.row.H-In.Denot g.row.H-Out.Denot → Told = λ s. t s.source s.sink in
    let end : Session g.row.H-In.Denot g.row.H-Out.Denot → End = λ s. s.end in
    let streams = c.args.streams.pairs.items in
    let house = g.H.House.state c.args.house.now in
    inr (record {
      memory = refl;
      house = c.settle_streams.ensures ∙ ap (λ (l : List Named). settled_all house (names_of l) (map before c.in-Err.pairs.items)) c.as_slice-in-Err.ensures.value
          ∙ ap (λ (l : List (g.row.H-In.Denot × g.row.H-Out.Denot)). settled_all house (names_of c.args.streams.names.items) (map before l)) c.in-Err.ensures.streams;
      nothing = c.requires.new.none_handed;
      no_fault = c.requires.new.no_faults;
    })
