use Rattle.std.proofs.Common.{List, Option, [], ◌∷◌, ◌++◌, refl, ap, sym, subst, ◌∙◌, arith}
use Rattle.std.proofs.lemmas.List.{length-map, map_push}
use Rattle.dl_sup.specs.declared.link.Link.{Link}
use Rattle.dl_lists.specs.declared.pair_slot.PairSlot.{PairSlot}
use Rattle.dl_lists.specs.declared.pair_numbers.Room.{Room}
use Rattle.dl_lists.specs.KeptPairs.{pair_in, pairs_in, HasRoom, HasPairRoom}
use Rattle.dl_rows.proofs.There.{live_most}
use Rattle.dl_lists.proofs.PairLemmas.{kept_put}
use Rattle.dl_lists.proofs.pair_numbers.PairNumbers.put.Goals as goal

pub overflow_add-self : goal.overflow_add-self
overflow_add-self c =
    omega (
      arith,
      c.self.invariant.live,
      c.self.invariant.few,
      live_most (pairs_in c.self.inside.pairs.items),
      length-map c.self.inside.pairs.items pair_in,
    )

pub invariant_of-self : goal.invariant_of-self
invariant_of-self c =
    let slots : List PairSlot = c.self.inside.pairs.items in
    let room : HasPairRoom c.self.inside.pairs c.self.inside.places c.in-ForPair.pair =
    subst (λ (r : Room). HasRoom c.self.inside.pairs c.self.inside.places r) c.in-ForPair.is c.self.invariant.room in
    kept_put c.self.inside _ c.in-ForPair.pair c.self.invariant room.few
    (ap pairs_in c.push.ensures.items ∙ map_push pair_in slots c.of.result
    ∙ ap (λ (o : Option Link). pairs_in slots ++ o ∷ []) c.of.ensures)
    (c.put_places.ensures.placed (pairs_in slots) (length-map slots pair_in ∙ sym c.len.ensures.items) c.self.invariant.placed) refl tt
