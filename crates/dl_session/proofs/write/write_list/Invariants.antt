use Rattle.std.proofs.Common.{◌≡◌, take}
use Rattle.std.specs.List.{flat_map}
use Rattle.std.specs.Io.KnownBytes.{append_known}
use Rattle.dl_conclusions.specs.Text.{conclusion_line}
use Rattle.dl_session.proofs.write.write_list.Given as goal

abbrev pub invariant-loop-conclusion : goal.invariant-loop-conclusion
invariant-loop-conclusion g l = record {
  bytes : g.S.Sink.written l.sink ≡ append_known (g.S.Sink.written l.fn.sink) (flat_map (conclusion_line l.family) (take l.conclusion-index l.list));
  faults : g.S.Sink.faults l.sink ≡ g.S.Sink.faults l.fn.sink;
  name : g.S.Sink.name l.sink ≡ g.S.Sink.name l.fn.sink;
}
