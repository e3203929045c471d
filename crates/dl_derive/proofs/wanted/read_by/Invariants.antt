use Rattle.std.proofs.Common.{◌≡◌, ◌/◌, ◌%◌, ◌<◌, ℕ, true, length}
use Rattle.std.specs.Prelude.{slice_index}
use Rattle.dl_marks.specs.Marks.{marked}
use Rattle.dl_fill.specs.Before as before
use Rattle.dl_fill.specs.Reads.{basis_at}
use Rattle.dl_derive.specs.Wanted.{IsWanted, With}
use Rattle.dl_derive.proofs.wanted.read_by.Given as goal

abbrev pub invariant-loop-node : goal.invariant-loop-node
invariant-loop-node l = record {
  len : length l.wanted.items ≡ l.size;
  each : (k : ℕ) → k < l.node-index → k < length l.nodes → before.is_inside l.region.members (slice_index l.nodes k / l.width) ≡ true
      → With l.net (marked l.marks) (IsWanted l.wanted.items) (basis_at l.bases (slice_index l.nodes k % l.width)) (slice_index l.nodes k / l.width);
}
