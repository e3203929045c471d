use Rattle.std.proofs.Common.{ℕ, Option, Some, List, [], ◌∷◌, ◌++◌, refl, ap, subst, sym, ◌∙◌, arith}
use Rattle.std.specs.Prelude.{Contains}
use Rattle.dl_lists.specs.Facts.{FactLists}
use Rattle.dl_rows.specs.There.{there}
use Rattle.dl_rows.proofs.There.{live_most}
use Rattle.dl_lists.specs.KeptFacts.{HasFactRoom}
use Rattle.dl_lists.proofs.FactLemmas.{room_ready, kept_put}
use Rattle.dl_lists.proofs.fact_numbers.FactNumbers.put.Goals as goal

pub overflow_add-self : goal.overflow_add-self
overflow_add-self c = omega (arith, c.self.invariant.live, c.self.invariant.few, live_most c.self.inside.facts.items)

pub put_place-requires-clause-owned : goal.put_place-requires-clause-owned
put_place-requires-clause-owned c =
    (room_ready c.self.inside c.args.literal c.self.invariant (ap (λ (v : FactLists). v.ready) c.self.view_is ∙ c.requires.ready)).owned

pub put_place-requires-clause-few : goal.put_place-requires-clause-few
put_place-requires-clause-few c =
    omega (
      arith,
      c.len.ensures,
      (room_ready c.self.inside c.args.literal c.self.invariant (ap (λ (v : FactLists). v.ready) c.self.view_is ∙ c.requires.ready)).few,
    )

pub push-requires-clause-room : goal.push-requires-clause-room
push-requires-clause-room c =
    (room_ready c.self.inside c.args.literal c.self.invariant (ap (λ (v : FactLists). v.ready) c.self.view_is ∙ c.requires.ready)).room

pub push-requires-clause-few : goal.push-requires-clause-few
push-requires-clause-few c =
    omega (
      arith,
      c.self.invariant.narrow,
      (room_ready c.self.inside c.args.literal c.self.invariant (ap (λ (v : FactLists). v.ready) c.self.view_is ∙ c.requires.ready)).wide,
    )

pub invariant_of-self : goal.invariant_of-self
invariant_of-self c =
    let items : List (Option ℕ) = c.self.inside.facts.items in
    let literal : ℕ = c.args.literal in
    let room : HasFactRoom c.self.inside.facts c.self.inside.places c.self.inside.width literal =
    room_ready c.self.inside literal c.self.invariant (ap (λ (v : FactLists). v.ready) c.self.view_is ∙ c.requires.ready) in
    let new : ¬ Contains (there items) literal =
    subst (λ (v : FactLists). ¬ Contains (there v.items) literal) (sym c.self.view_is) c.requires.new in
    kept_put c.self.inside _ literal c.self.invariant room.wide new room.few c.push.ensures refl
    (c.put_place.ensures items c.self.inside.width (sym c.len.ensures) room.wide new c.self.invariant.placed) refl tt

pub returns-clause-items : goal.returns-clause-items
returns-clause-items c =
    c.push.ensures ∙ ap (λ (v : FactLists). v.items ++ Some c.args.literal ∷ []) c.self.view_is
