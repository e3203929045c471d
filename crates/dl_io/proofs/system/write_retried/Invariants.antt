use Rattle.std.proofs.Common.{◌≡◌}
use Rattle.dl_io.proofs.system.write_retried.Given as goal

abbrev pub invariant-loop : goal.invariant-loop
invariant-loop g l = g.W.RawSink.got l.raw ≡ g.W.RawSink.got l.initial.raw
