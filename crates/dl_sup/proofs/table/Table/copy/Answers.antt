use Rattle.std.proofs.Common.{◌≡◌, ℕ, List, [], ◌∷◌, ◌++◌, Some, refl, sym, ap, subst, ◌∙◌, arith}
use Rattle.std.specs.Prelude.{Contains}
use Rattle.std.proofs.lemmas.List.{take_all}
use Rattle.dl_sup.specs.declared.link.Link.{Link}
use Rattle.dl_sup.specs.declared.slot.Slot.{Slot}
use Rattle.dl_sup.specs.Slots.{place_of, slot_at, IsAlive, live}
use Rattle.dl_sup.proofs.Slots.{live_more, new_to_front}
use Rattle.dl_sup.proofs.table.Table.copy.Goals as goal

pub put_slot-requires : goal.put_slot-requires
put_slot-requires c = λ a m.
    new_to_front c.deref-slot-items.result.now c.self.inside.places c.loop-slot.slot-index
    (subst (λ (xs : List Slot). (t : ℕ) → IsAlive xs t → place_of c.self.inside.places (slot_at xs t).link ≡ Some t) (sym c.deref-slot-items.ensures.value) c.self.invariant.found)
    c.loop-slot-test.true a (subst (λ (ps : List Link). Contains ps (slot_at c.deref-slot-items.result.now c.loop-slot.slot-index).link) c.loop-slot.invariant m)

pub loop-slot-preserved : goal.loop-slot-preserved
loop-slot-preserved c =
    let slots = c.deref-slot-items.result.now in
    let s = slot_at slots c.loop-slot.slot-index in
    c.in_ok-put_slot.ensures
    ∙ ap (λ (ps : List Link). ps ++ live (s ∷ [])) c.loop-slot.invariant
    ∙ sym (live_more slots c.loop-slot.slot-index s c.loop-slot-test.true refl)

pub returns : goal.returns
returns c =
    c.loop-slot.invariant
    ∙ ap live (take_all c.loop-slot.slot-index c.deref-slot-items.result.now (omega arith))
    ∙ ap live c.deref-slot-items.ensures.value
    ∙ c.self.view_is
