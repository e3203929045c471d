use Rattle.std.proofs.Common.{◌≡◌, List, ℕ, Option}
use Rattle.std.specs.Io.KnownBytes.{append_known}
use Rattle.dl_conclusions.specs.Text.{lines_before}
use Rattle.dl_conclusions.proofs.text.write_lines.Given as goal

abbrev pub invariant-loop-at : goal.invariant-loop-at
invariant-loop-at g l = record {
  bytes : (before : Option (List ℕ)) → g.S.Sink.written l.fn.sink ≡ append_known before (lines_before l.family l.conclusions l.from)
      → g.S.Sink.written l.sink ≡ append_known before (lines_before l.family l.conclusions l.at);
  faults : g.S.Sink.faults l.sink ≡ g.S.Sink.faults l.fn.sink;
  name : g.S.Sink.name l.sink ≡ g.S.Sink.name l.fn.sink;
}
