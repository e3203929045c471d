use Rattle.std.proofs.Common.{◌+◌}
use Rattle.dl_sup.specs.Whole.{IsPassed, IsStamped}
use Rattle.dl_sup.proofs.whole.pass.Given as goal

abbrev pub invariant-loop-cursor : goal.invariant-loop-cursor
invariant-loop-cursor l = record {
  passed : IsPassed l.links l.marks.met.items (l.item + 1);
  stamped : IsStamped l.links l.marks.met.items l.marks.stamps.items l.item;
}

abbrev pub decreases-loop-cursor : goal.decreases-loop-cursor
decreases-loop-cursor l = l.cursor
