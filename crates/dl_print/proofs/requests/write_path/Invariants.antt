use Rattle.std.proofs.Common.{◌≡◌, take}
use Rattle.std.specs.List.{flat_map}
use Rattle.std.specs.Io.KnownBytes.{append_known}
use Rattle.dl_print.specs.Text.{spaced}
use Rattle.dl_print.proofs.requests.write_path.Given as goal

abbrev pub invariant-loop-label : goal.invariant-loop-label
invariant-loop-label g l = record {
  bytes : g.S.Sink.written l.sink ≡ append_known (g.S.Sink.written l.fn.sink) (flat_map spaced (take l.label-index l.labels));
  faults : g.S.Sink.faults l.sink ≡ g.S.Sink.faults l.fn.sink;
  name : g.S.Sink.name l.sink ≡ g.S.Sink.name l.fn.sink;
}
