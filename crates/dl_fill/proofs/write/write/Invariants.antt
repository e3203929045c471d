use Rattle.std.proofs.Common.{◌+◌, ◌≤◌, take}
use Rattle.dl_fill.specs.Filled.{IsWritten}
use Rattle.dl_fill.proofs.write.write.Given as goal

abbrev pub invariant-loop-place : goal.invariant-loop-place
invariant-loop-place g l = record {
  written : IsWritten l.width l.kind l.counters l.tag (take l.place l.region.members) l.fn.marks l.marks;
  steps : l.steps ≤ l.fn.steps + l.place;
}
