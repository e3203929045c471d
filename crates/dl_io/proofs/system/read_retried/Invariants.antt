use Rattle.std.proofs.Common.{◌≡◌, length}
use Rattle.dl_io.proofs.system.read_retried.Given as goal

abbrev pub invariant-loop : goal.invariant-loop
invariant-loop g l = record {
  room : length l.room ≡ length l.initial.room;
  rest : g.R.RawSource.rest l.raw ≡ g.R.RawSource.rest l.initial.raw;
}
