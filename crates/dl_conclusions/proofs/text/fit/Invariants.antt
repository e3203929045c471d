use Rattle.std.proofs.Common.{◌≤◌, ◌+◌, length}
use Rattle.dl_lit.specs.declared.literal.Family.{Family}
use Rattle.dl_conclusions.specs.Text.{lines_before}
use Rattle.dl_conclusions.proofs.text.fit.Given as goal

abbrev pub invariant-loop-at : goal.invariant-loop-at
invariant-loop-at l = (family : Family) → l.left + length (lines_before family l.conclusions l.at) ≤ l.room + length (lines_before family l.conclusions l.from)
