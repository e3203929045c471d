use Rattle.std.proofs.Common.{◌≡◌, ◌≤◌, ◌-◌, length}
use Rattle.std.specs.Io.KnownBytes.{append_known}
use Rattle.dl_conclusions.specs.Text.{lines_before}
use Rattle.dl_conclusions.proofs.text.write_conclusions.Given as goal

abbrev pub invariant-loop-from : goal.invariant-loop-from
invariant-loop-from g l = record {
  within : l.from ≤ length l.conclusions;
  bytes : g.S.Sink.written l.sink ≡ append_known (g.S.Sink.written l.fn.sink) (lines_before l.family l.conclusions l.from);
  faults : g.S.Sink.faults l.sink ≡ g.S.Sink.faults l.fn.sink;
  name : g.S.Sink.name l.sink ≡ g.S.Sink.name l.fn.sink;
}

abbrev pub decreases-loop-from : goal.decreases-loop-from
decreases-loop-from g l = length l.conclusions - l.from
