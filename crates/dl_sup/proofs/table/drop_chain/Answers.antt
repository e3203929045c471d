use Rattle.std.proofs.Common.{◌≡◌, suc, ◌-◌, ◌<◌, ◌≤◌, length, set, inl, inr, false, sym, ap, subst, ◌∙◌, arith, length-set, refl}
use Rattle.std.specs.Prelude.{not}
use Rattle.std.proofs.lemmas.List.{get_or_read}
use Rattle.std.proofs.lemmas.Bool.{cases_eq}
use Rattle.dl_sup.specs.declared.slot.Slot.{Slot}
use Rattle.dl_sup.specs.declared.slot.Way.{Way}
use Rattle.dl_sup.specs.declared.slot.Way.TheVariants.{Down, Up}
use Rattle.dl_sup.specs.Links.{names_item}
use Rattle.dl_sup.specs.Slots.{near, older, slot_at, no_slot, IsAlive}
use Rattle.dl_sup.proofs.Slots.{KeepsSlots-gone, KeepsSlots-then, dead_there, filter-live_set, names_near, near_same, IsChained-kept}
use Rattle.dl_sup.proofs.table.drop_chain.Goals as goal

older_gone : (way : Way) (s : Slot) → older way (record s { alive = false }) ≡ older way s
older_gone Down s = refl
older_gone Up s = refl

pub loop-cursor-preserved : goal.loop-cursor-preserved
loop-cursor-preserved c =
    let slots = c.loop-cursor.slots.items in
    let at = c.loop-cursor.cursor - 1 in
    let inv = c.loop-cursor.invariant in
    let within : at < length slots = omega (arith, inv.short, c.loop-cursor-test.true) in
    let here : c.loop-cursor.cursor ≡ suc at = omega (arith, c.loop-cursor-test.true) in
    let read : c.index_mut-slot.result.now ≡ slot_at slots at = get_or_read slots at c.index_mut-slot.result.now within c.index_mut-slot.ensures.value no_slot in
    let chained = IsChained-kept c.args.way c.args.slots.now.items slots c.args.heads.now inv.keeps c.requires in
    let step = KeepsSlots-gone slots at c.index_mut-slot.result.now within read in
    let near_here : near c.args.way (slot_at slots at) ≡ c.args.item = inv.chain at here in
    let next : c.older-cursor.result ≡ older c.args.way (slot_at slots at) =
    c.older-cursor.ensures ∙ older_gone c.args.way c.index_mut-slot.result.now ∙ ap (older c.args.way) read in
    record {
      keeps = KeepsSlots-then c.args.slots.now.items slots _ inv.keeps step;
      rest =
          filter-live_set (λ p. not (names_item c.args.item p)) slots at _ refl (names_near c.args.way c.args.item (slot_at slots at) near_here) ∙ inv.rest;
      left = λ t a near_t.
          let was : IsAlive slots t = step.alive t a in
          let near_was : near c.args.way (slot_at slots t) ≡ c.args.item = sym (near_same c.args.way slots _ t step) ∙ near_t in
          let lt : t < c.loop-cursor.cursor = inv.left t was near_was in
          elim (cases_eq t at) [
            | inl e ↦ absurd (dead_there slots at c.index_mut-slot.result.now within read (subst (λ x. IsAlive (set slots at (record c.index_mut-slot.result.now { alive = false })) x) e a))
            | inr differs ↦
                subst (λ x. t < x) (sym next) (chained.goes_on at t (omega (arith, lt, here, differs)) within was (near_was ∙ sym near_here))
          ];
      short = subst (λ x. x ≤ length (set slots at (record c.index_mut-slot.result.now { alive = false }))) (sym next) (omega (arith, chained.falls at within, within, length-set slots at (record c.index_mut-slot.result.now { alive = false })));
      chain = λ t e.
          near_same c.args.way slots _ t step ∙ chained.same at t within (sym next ∙ e) ∙ near_here;
    }
