use Rattle.std.proofs.Common.{◌≡◌, ◌≤◌, ◌-◌, length, drop}
use Rattle.std.specs.Io.KnownBytes.{append_known}
use Rattle.dl_io.specs.Streams.{IsKnownFront}
use Rattle.dl_io.proofs.system.write_held.Given as goal

abbrev pub invariant-loop-start : goal.invariant-loop-start
invariant-loop-start g l = record {
  within : l.start ≤ length l.held;
  bytes : append_known (g.W.RawSink.got l.raw) (drop l.start l.held) ≡ append_known (g.W.RawSink.got l.fn.raw) (drop l.fn.start l.held);
  handed : IsKnownFront (g.W.RawSink.got l.fn.raw) (g.W.RawSink.got l.raw);
}

abbrev pub decreases-loop-start : goal.decreases-loop-start
decreases-loop-start g l = length l.held - l.start
