use Rattle.std.proofs.Common.{ℕ, Option, List, subst, refl, arith}
use Rattle.dl_lists.specs.declared.fact_numbers.Room.{Room}
use Rattle.dl_lists.specs.KeptFacts.{HasRoom, CanLeave}
use Rattle.dl_rows.proofs.There.{live_drop}
use Rattle.dl_lists.proofs.FactLemmas.{kept_drop}
use Rattle.dl_lists.proofs.fact_numbers.FactNumbers.drop_fact.Goals as goal

pub overflow_sub-self : goal.overflow_sub-self
overflow_sub-self c =
    let room : CanLeave c.self.inside.facts c.self.inside.places c.in-ForDrop.literal c.in-ForDrop.number =
    subst (λ (r : Room). HasRoom c.self.inside.facts c.self.inside.places c.self.inside.width r) c.in-ForDrop.is c.self.invariant.room in
    omega (arith, c.self.invariant.live, live_drop c.self.inside.facts.items c.in-ForDrop.literal c.in-ForDrop.number room.there)

pub invariant_of-self : goal.invariant_of-self
invariant_of-self c =
    let items : List (Option ℕ) = c.self.inside.facts.items in
    let literal : ℕ = c.in-ForDrop.literal in
    let number : ℕ = c.in-ForDrop.number in
    let room : CanLeave c.self.inside.facts c.self.inside.places literal number =
    subst (λ (r : Room). HasRoom c.self.inside.facts c.self.inside.places c.self.inside.width r) c.in-ForDrop.is c.self.invariant.room in
    kept_drop c.self.inside _ literal number c.self.invariant room.there c.clear.ensures.items refl
    (c.drop_place.ensures items c.self.inside.width number (c.self.invariant.within literal number room.there) c.self.invariant.once room.there
    c.self.invariant.placed)
    (omega (arith, c.self.invariant.live, live_drop items literal number room.there)) tt
