use Rattle.std.proofs.Common.{◌≡◌, None}
use Rattle.std.specs.Prelude.{All, IsSome}
use Rattle.dl_thread_tests.proofs.turns.enrol_all.Given as goal

abbrev pub invariant-loop : goal.invariant-loop
invariant-loop g l = record {
  first : l.first ≡ l.initial.first;
  seats : All (λ seat. (seat.place ≡ l.turnstile) × (seat.out ≡ None) × IsSome seat.number) l.seats.items;
}
