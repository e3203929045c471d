use Rattle.std.proofs.Common.{◌≡◌, ◌-◌, drop, take}
use Rattle.std.specs.List.{flat_map}
use Rattle.std.specs.Io.KnownBytes.{append_known}
use Rattle.dl_print.specs.Text.{comma_text}
use Rattle.dl_edition.proofs.rule.write_more.Given as goal

abbrev pub invariant-loop-at : goal.invariant-loop-at
invariant-loop-at g l = record {
  bytes : g.S.Sink.written l.sink ≡ append_known (g.S.Sink.written l.fn.sink) (flat_map comma_text (take (l.at - 1) (drop 1 l.rule.body)));
  faults : g.S.Sink.faults l.sink ≡ g.S.Sink.faults l.fn.sink;
  name : g.S.Sink.name l.sink ≡ g.S.Sink.name l.fn.sink;
}
