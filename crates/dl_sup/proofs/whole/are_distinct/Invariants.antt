use Rattle.dl_sup.specs.Whole.{IsPassed}
use Rattle.dl_sup.proofs.whole.are_distinct.Given as goal

abbrev pub invariant-loop-item : goal.invariant-loop-item
invariant-loop-item l = IsPassed l.links l.marks.met.items l.item
