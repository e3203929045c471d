use Rattle.std.proofs.Common.{◌≡◌, None}
use Rattle.dl_thread_tests.proofs.turns.join_all.Given as goal

abbrev pub invariant-loop-other : goal.invariant-loop-other
invariant-loop-other l = record {
  can : (goal.iterator-loop-other).can_next l.other-iterator;
  finite : (goal.iterator-loop-other).is_finite l.other-iterator;
  first : (l.first.place ≡ l.turnstile) × (l.first.out ≡ None);
}
