use Rattle.std.proofs.Common.{◌≡◌, ℕ, ◌<◌}
use Rattle.std.specs.Prelude.{Contains}
use Rattle.dl_update.proofs.unmarked.everywhere.Given as goal

abbrev pub invariant-loop-number : goal.invariant-loop-number
invariant-loop-number l = record {
  bound : l.region.bound ≡ l.names;
  all : (n : ℕ) → n < l.number → Contains l.region.members n;
}
