use Rattle.std.proofs.Common.{ℕ, ◌<◌, get_or}
use Rattle.dl_rows.specs.There.{HasNumber}
use Rattle.dl_lists.specs.KeptPairs.{pairs_in}
use Rattle.dl_lists.proofs.pair_places.find_in.Given as goal

abbrev pub invariant-loop-number : goal.invariant-loop-number
invariant-loop-number l = (k : ℕ) → k < l.number-index → ¬ HasNumber (pairs_in l.pairs.items) l.pair (get_or l.row k 0)
