use Rattle.std.proofs.Common.{take}
use Rattle.dl_lists.specs.KeptPairs.{ArePlaced, pairs_in}
use Rattle.dl_lists.proofs.pair_places.PairPlaces.of.Given as goal

abbrev pub invariant-loop-number : goal.invariant-loop-number
invariant-loop-number l = ArePlaced (take l.number (pairs_in l.pairs.items)) l.places.uppers l.places.lowers
