use Rattle.std.proofs.Common.{◌≡◌, None}
use Rattle.dl_text_tests.proofs.lists.add_numbered.Given as goal

abbrev pub invariant-loop-number : goal.invariant-loop-number
invariant-loop-number g l = l.labels.ready ≡ None
