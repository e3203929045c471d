use Rattle.std.proofs.Common.{◌≡◌, None}
use Rattle.std.specs.Prelude.{IsSome}
use Rattle.dl_thread_tests.proofs.turns.write_all.Given as goal

abbrev pub invariant-loop-before : goal.invariant-loop-before
invariant-loop-before g l = (l.seat.place ≡ l.turnstile) × (l.seat.out ≡ None) × IsSome l.seat.number
