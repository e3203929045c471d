use Rattle.std.proofs.Common.{Option, subst}
use Rattle.dl_lists.specs.declared.pair_places.PairPlaces.{PairPlaces}
use Rattle.dl_lists.specs.KeptPairs.{ArePlacedIn}
use Rattle.dl_lists.proofs.pair_numbers.remove_places.Goals as goal

pub returns-in-Some-clause-placed : goal.returns-in-Some-clause-placed
returns-in-Some-clause-placed c = λ items h.
    c.remove.ensures items (subst (λ (o : Option PairPlaces). ArePlacedIn items o) c.in-Some.is h)
