use Rattle.std.proofs.Common.{refl}
use Rattle.dl_lists.specs.KeptPairs.{pairs_in}
use Rattle.dl_lists.proofs.PairLemmas.{kept_same}
use Rattle.dl_lists.proofs.pair_numbers.PairNumbers.freeze.Goals as goal

pub invariant_of-self : goal.invariant_of-self
invariant_of-self c =
    kept_same c.self.inside _ c.self.invariant c.freeze.ensures.items
    (c.freeze_places.ensures (pairs_in c.self.inside.pairs.items) c.self.invariant.placed) refl tt
