use Rattle.std.proofs.Common.{◌≡◌, Some, None, map, take}
use Rattle.dl_lists.proofs.pair_numbers.PairNumbers.of.Given as goal

abbrev pub invariant-loop-pair : goal.invariant-loop-pair
invariant-loop-pair l = (l.all.items ≡ map Some (take l.pair-index l.pairs)) × (l.all.ready ≡ None) × (l.all.leaving ≡ None) × (l.all.clearing ≡ None)
