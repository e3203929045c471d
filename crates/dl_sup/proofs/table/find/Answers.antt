use Rattle.std.proofs.Common.{◌≡◌, ◌<◌, length, sym, ap, subst, ◌∙◌, true≢false, rules}
use Rattle.std.proofs.lemmas.List.{get_or_read}
use Rattle.dl_sup.specs.declared.slot.Slot.{Slot}
use Rattle.dl_sup.specs.Slots.{slot_at, no_slot}
use Rattle.dl_sup.proofs.LinkLemmas.{same_link_same}
use Rattle.dl_sup.proofs.Slots.{stands_found, alive_within}
use Rattle.dl_sup.proofs.table.find.Goals as goal
use Rattle.dl_sup.proofs.table.find.Goals.{else-slot-via-then-slot+else-eq, else-slot-via-else-slot}

pub returns-in-None : goal.returns-in-None
returns-in-None c = λ m.
    let s = stands_found c.args.slots.now c.args.places.now c.args.pair c.requires m in
    absurd (cc (s.3, c.get.ensures, c.in-None.is))

pub returns-in-None-get : goal.returns-in-None-get
returns-in-None-get c = λ m.
    let s = stands_found c.args.slots.now c.args.places.now c.args.pair c.requires m in
    let at : s.0 ≡ c.in-Some.at = cc (s.3, c.get.ensures, c.in-Some.is) in
    let within : c.in-Some.at < length c.args.slots.now = subst (λ n. n < length c.args.slots.now) at (alive_within c.args.slots.now s.0 s.1) in
    search rules

pub returns-else-slot : goal.returns-else-slot
returns-else-slot c = λ m.
    let s = stands_found c.args.slots.now c.args.places.now c.args.pair c.requires m in
    let at : s.0 ≡ c.in-Some.at = cc (s.3, c.get.ensures, c.in-Some.is) in
    let within : c.in-Some.at < length c.args.slots.now = subst (λ n. n < length c.args.slots.now) at (alive_within c.args.slots.now s.0 s.1) in
    let read : c.in-Some-get.slot.now ≡ slot_at c.args.slots.now c.in-Some.at =
    get_or_read c.args.slots.now c.in-Some.at c.in-Some-get.slot.now within (search rules) no_slot in
    let here : slot_at c.args.slots.now s.0 ≡ c.in-Some-get.slot.now = ap (slot_at c.args.slots.now) at ∙ sym read in
    elim c.else-slot.branch [
      | else-slot-via-then-slot+else-eq w ↦
          true≢false
          (sym (same_link_same c.in-Some-get.slot.now.link c.args.pair (sym (ap (λ (x : Slot). x.link) here) ∙ s.2)) ∙ sym w.eq.ensures ∙ w.if-eq.false)
      | else-slot-via-else-slot w ↦ true≢false (sym s.1 ∙ ap (λ (x : Slot). x.alive) here ∙ w.if-slot.false)
    ]
