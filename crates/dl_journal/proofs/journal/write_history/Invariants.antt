use Rattle.std.proofs.Common.{◌≡◌, ◌-◌, ◌≤◌, length, take}
use Rattle.std.specs.Io.KnownBytes.{append_known}
use Rattle.dl_calls.specs.Text.{journal_text}
use Rattle.dl_journal.proofs.journal.write_history.Given as goal

abbrev pub invariant-loop-entry : goal.invariant-loop-entry
invariant-loop-entry g l = record {
  bytes : g.S.Sink.written l.sink ≡ append_known (g.S.Sink.written l.fn.sink) (journal_text (take l.at l.board.history));
  within : l.at ≤ length l.board.history;
  faults : g.S.Sink.faults l.sink ≡ g.S.Sink.faults l.fn.sink;
  name : g.S.Sink.name l.sink ≡ g.S.Sink.name l.fn.sink;
}

abbrev pub decreases-loop-entry : goal.decreases-loop-entry
decreases-loop-entry g l = length l.board.history - l.at
