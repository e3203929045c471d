use Rattle.std.proofs.Common.{◌≡◌}
use Rattle.dl_sessions.proofs.hall.Hall.make.Given as goal

abbrev pub invariant-loop : goal.invariant-loop
invariant-loop g l = record {
  start : l.hall.start ≡ l.theory;
  seats : l.hall.seats ≡ l.counter;
}
