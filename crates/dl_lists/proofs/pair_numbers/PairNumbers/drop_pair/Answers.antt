use Rattle.std.proofs.Common.{◌≡◌, ℕ, List, Option, None, Some, set, ap, sym, subst, ◌∙◌, arith}
use Rattle.std.proofs.lemmas.List.{map-set}
use Rattle.dl_sup.specs.declared.link.Link.{Link}
use Rattle.dl_lists.specs.declared.pair_slot.PairSlot.{PairSlot}
use Rattle.dl_lists.specs.declared.pair_numbers.Room.{Room}
use Rattle.dl_lists.specs.KeptPairs.{pair_in, pairs_in, leaving_of, HasRoom, CanLeave}
use Rattle.dl_lists.specs.Pairs.{PairLists}
use Rattle.dl_rows.specs.There.{HasNumber}
use Rattle.dl_rows.proofs.There.{live_drop}
use Rattle.dl_lists.proofs.PairLemmas.{kept_drop}
use Rattle.dl_lists.proofs.pair_numbers.PairNumbers.drop_pair.Goals as goal

pub overflow_sub-self : goal.overflow_sub-self
overflow_sub-self c =
    let room : CanLeave c.self.inside.pairs c.self.inside.places c.in-ForDrop.pair c.in-ForDrop.number =
    subst (λ (r : Room). HasRoom c.self.inside.pairs c.self.inside.places r) c.in-ForDrop.is c.self.invariant.room in
    omega (arith, c.self.invariant.live, live_drop (pairs_in c.self.inside.pairs.items) c.in-ForDrop.pair c.in-ForDrop.number room.there)

pub invariant_of-self : goal.invariant_of-self
invariant_of-self c =
    let slots : List PairSlot = c.self.inside.pairs.items in
    let pair : Link = c.in-ForDrop.pair in
    let number : ℕ = c.in-ForDrop.number in
    let room : CanLeave c.self.inside.pairs c.self.inside.places pair number =
    subst (λ (r : Room). HasRoom c.self.inside.pairs c.self.inside.places r) c.in-ForDrop.is c.self.invariant.room in
    kept_drop c.self.inside _ pair number c.self.invariant room.there
    (ap pairs_in c.put.ensures.items ∙ map-set pair_in slots number c.empty.result
    ∙ ap (λ (o : Option Link). set (pairs_in slots) number o) c.empty.ensures)
    (c.remove_places.ensures.placed (pairs_in slots) c.self.invariant.placed)
    (omega (arith, c.self.invariant.live, live_drop (pairs_in slots) pair number room.there)) tt

pub returns-clause-items : goal.returns-clause-items
returns-clause-items c =
    let slots : List PairSlot = c.self.inside.pairs.items in
    let pair : Link = c.in-ForDrop.pair in
    let number : ℕ = c.in-ForDrop.number in
    let room : CanLeave c.self.inside.pairs c.self.inside.places pair number =
    subst (λ (r : Room). HasRoom c.self.inside.pairs c.self.inside.places r) c.in-ForDrop.is c.self.invariant.room in
    let both : Some pair ≡ Some c.args.pair =
    sym (ap leaving_of c.in-ForDrop.is) ∙ ap (λ (v : PairLists). v.leaving) c.self.view_is ∙ c.requires in
    let same : pair ≡ c.args.pair = cc in (
      number,
      subst (λ (p : Link). HasNumber c.args.self.now.items p number) same
          (subst (λ (v : PairLists). HasNumber v.items pair number) c.self.view_is room.there),
      ap pairs_in c.put.ensures.items ∙ map-set pair_in slots number c.empty.result
          ∙ ap (λ (o : Option Link). set (pairs_in slots) number o) c.empty.ensures
          ∙ ap (λ (v : PairLists). set v.items number None) c.self.view_is,
    )
