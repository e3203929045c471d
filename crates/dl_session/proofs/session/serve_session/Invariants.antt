use Rattle.std.proofs.Common.{◌≡◌}
use Rattle.dl_edition.specs.Offices.{MayCall}
use Rattle.dl_lines.specs.Laws.{calls_left}
use Rattle.dl_session.proofs.Sessions.{SoFar}
use Rattle.dl_session.proofs.session.serve_session.Given as goal

abbrev pub invariant-serving : goal.invariant-serving
invariant-serving g l = record {
  belongs : g.O.Office.belongs l.office l.seat;
  may : MayCall l.seat;
  so_far : SoFar (g.I.Source.rest l.fn.source) (g.I.Source.rest l.source) (g.P.Sink.written l.fn.sink) (g.P.Sink.written l.sink) l.fn.seat l.seat l.room.lines l.room.table.editions;
  handed : g.P.Sink.handed l.fn.sink ≡ g.P.Sink.written l.fn.sink → g.P.Sink.handed l.sink ≡ g.P.Sink.written l.sink;
  read_faults : g.I.Source.faults l.source ≡ g.I.Source.faults l.fn.source;
  write_faults : g.P.Sink.faults l.sink ≡ g.P.Sink.faults l.fn.sink;
  source_name : g.I.Source.name l.source ≡ g.I.Source.name l.fn.source;
  sink_name : g.P.Sink.name l.sink ≡ g.P.Sink.name l.fn.sink;
}

abbrev pub decreases-serving : goal.decreases-serving
decreases-serving g l = calls_left l.room.lines
