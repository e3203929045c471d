use Rattle.std.proofs.Common.{◌≡◌, length}
use Rattle.dl_text_tests.proofs.pages.table.Given as goal

abbrev pub invariant-loop-number : goal.invariant-loop-number
invariant-loop-number g l = length l.list.items ≡ l.number
