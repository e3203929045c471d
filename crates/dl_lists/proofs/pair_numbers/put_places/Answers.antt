use Rattle.std.proofs.Common.{Option, subst}
use Rattle.dl_lists.specs.declared.pair_places.PairPlaces.{PairPlaces}
use Rattle.dl_lists.specs.KeptPairs.{ArePlacedIn, HasPlaceRoom}
use Rattle.dl_lists.proofs.pair_numbers.put_places.Goals as goal

pub put-requires-clause-upper : goal.put-requires-clause-upper
put-requires-clause-upper c = (subst (λ (o : Option PairPlaces). HasPlaceRoom o c.args.pair) c.in-Some.is c.requires).0

pub put-requires-clause-lower : goal.put-requires-clause-lower
put-requires-clause-lower c = (subst (λ (o : Option PairPlaces). HasPlaceRoom o c.args.pair) c.in-Some.is c.requires).1

pub returns-in-Some-clause-placed : goal.returns-in-Some-clause-placed
returns-in-Some-clause-placed c = λ items long h.
    c.put.ensures items long (subst (λ (o : Option PairPlaces). ArePlacedIn items o) c.in-Some.is h)
