use Rattle.std.proofs.Common.{◌≡◌, Some, take, map}
use Rattle.dl_lists.specs.Pairs.{no_pairs}
use Rattle.dl_net.proofs.load.pair_numbers.Given as goal

abbrev pub invariant-loop-at : goal.invariant-loop-at
invariant-loop-at l = l.all ≡ record no_pairs { items = map Some (take l.at l.pairs) }
