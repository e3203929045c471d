use Rattle.std.proofs.Common.{ℕ, ◌<◌}
use Rattle.dl_rows.specs.There.{HasNumber}
use Rattle.dl_text_tests.proofs.lists.number_of.Given as goal

abbrev pub invariant-loop-number : goal.invariant-loop-number
invariant-loop-number l = (k : ℕ) → k < l.number → ¬ HasNumber l.facts.items l.literal k
