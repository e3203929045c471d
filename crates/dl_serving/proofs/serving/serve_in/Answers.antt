use Rattle.std.proofs.Common.{map, string_bytes, vec_capacity}
use Rattle.dl_sessions.specs.Served.{Told, told}
use Rattle.dl_journal.specs.Streams.{names_of}
use Rattle.dl_files.specs.declared.status.Status.TheVariants.{Memory}
use Rattle.dl_serving.proofs.Halls.{hall_open, sessions_from}
use Rattle.dl_serving.proofs.serving.serve_in.Goals as goal

pub serve_hall-requires-clause-opened : goal.serve_hall-requires-clause-opened
serve_hall-requires-clause-opened g c κs within =
    let t = told g.H.In.Source.rest g.H.In.Source.faults g.H.In.Source.name g.H.Out.Sink.written g.H.Out.Sink.handed g.H.Out.Sink.faults g.H.Out.Sink.name in
    let before : g.row.H-In.Denot × g.row.H-Out.Denot → Told = λ s. t s.0 s.1 in
    let old = g.H.House.state c.args.house.now in
    let names = map string_bytes c.args.names.now in
    let streams = c.in-Ok-open.streams in
    hall_open g.H.House.tells old (g.H.House.state c.open.new.house) old c.args.theory.now c.in-Ok.hall.start names (names_of streams.names.items) (map before streams.pairs.items)
    streams.ends.items (vec_capacity streams.ends) (g.H.Out.Sink.handed c.args.sink.now) 0 Memory c.requires.may c.in-Ok.ensures.start c.in-Ok-open.ensures.opened

pub returns-in-Ok-open-clause-sessions : goal.returns-in-Ok-open-clause-sessions
returns-in-Ok-open-clause-sessions g c =
    let t = told g.H.In.Source.rest g.H.In.Source.faults g.H.In.Source.name g.H.Out.Sink.written g.H.Out.Sink.handed g.H.Out.Sink.faults g.H.Out.Sink.name in
    let before : g.row.H-In.Denot × g.row.H-Out.Denot → Told = λ s. t s.0 s.1 in
    let old = g.H.House.state c.args.house.now in
    let names = map string_bytes c.args.names.now in
    let streams = c.in-Ok-open.streams in
    let sink = c.serve_hall.new.sink in
    sessions_from g.H.House.tells old (g.H.House.state c.open.new.house) (g.H.House.state c.serve_hall.new.house) c.args.theory.now c.in-Ok.hall.start names (names_of streams.names.items)
    (map before streams.pairs.items) streams.ends.items (vec_capacity streams.ends) (g.H.Out.Sink.handed sink) (g.H.Out.Sink.faults sink) c.serve_hall.result c.requires.may
    c.in-Ok.ensures.start c.in-Ok-open.ensures.opened c.serve_hall.ensures.served
