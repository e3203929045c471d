use Rattle.std.proofs.Common.{refl}
use Rattle.dl_lists.specs.KeptPairs.{pairs_in}
use Rattle.dl_lists.proofs.PairLemmas.{kept_same}
use Rattle.dl_lists.proofs.pair_numbers.PairNumbers.copy.Goals as goal

pub invariant_of-result : goal.invariant_of-result
invariant_of-result c =
    kept_same c.self.inside _ c.self.invariant c.in_ok-pairs.ensures
    (c.in_ok-places.ensures.placed (pairs_in c.self.inside.pairs.items) c.self.invariant.placed) refl tt
