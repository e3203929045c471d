use Rattle.std.proofs.Common.{List, sym, subst, ◌∙◌}
use Rattle.dl_sup.specs.declared.slot.Slot.{Slot}
use Rattle.dl_sup.specs.Slots.{slot_at, IsKept}
use Rattle.dl_sup.proofs.table.Table.reserve.Goals as goal

pub invariant_of-self-2 : goal.invariant_of-self-2
invariant_of-self-2 c =
    let slots : List Slot = c.self.inside.slots.items in
    subst (λ (xs : List Slot). IsKept xs c.reserve-2.new.self c.self.inside.downs c.self.inside.ups) (sym c.in_ok-reserve.ensures.items)
    (record {
      found = λ t a. c.reserve-2.ensures (slot_at slots t).link ∙ c.self.invariant.found t a;
      below = c.self.invariant.below;
      over = c.self.invariant.over;
    })
