use Rattle.std.proofs.Common.{◌≡◌, ℕ, ◌<◌, ◌≤◌, ◌++◌, length}
use Rattle.dl_sup.specs.Searching.{trail, trail_by}
use Rattle.dl_sup.proofs.search.trace.Given as goal

abbrev pub invariant-loop-at : goal.invariant-loop-at
invariant-loop-at l = record {
  within : l.at < length l.visits;
  so_far : (n : ℕ) × (l.at ≤ n) × (l.items.items ++ trail_by n l.visits l.at ≡ l.initial.items.items ++ trail l.visits l.place);
}

abbrev pub decreases-loop-at : goal.decreases-loop-at
decreases-loop-at l = l.at
