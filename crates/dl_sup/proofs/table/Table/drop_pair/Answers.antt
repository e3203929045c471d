use Rattle.std.proofs.Common.{◌≡◌, ℕ, false, Some, List, get_or, set, refl, sym, ap, subst, ◌∙◌}
use Rattle.std.specs.Prelude.{filter, not, Contains}
use Rattle.std.proofs.lemmas.List.{get_or_read}
use Rattle.dl_sup.specs.HeadLists.{HeadLists}
use Rattle.dl_sup.specs.declared.link.Link.{Link}
use Rattle.dl_sup.specs.declared.slot.Slot.{Slot}
use Rattle.dl_sup.specs.Links.{same_link}
use Rattle.dl_sup.specs.Slots.{place_of, slot_at, no_slot, live, IsAlive, IsKept, IsFoundAt}
use Rattle.dl_sup.proofs.LinkLemmas.{same_link_same, not_false}
use Rattle.dl_sup.proofs.Slots.{KeepsSlots-gone, IsKept-kept, dead_there, filter-live_set, none_same, live_from, found_has}
use Rattle.dl_sup.proofs.table.Table.drop_pair.Goals as goal

module _ (slots : List Slot) (places : List (Link × ℕ)) (downs ups : HeadLists) (h : IsKept slots places downs ups) (pair : Link) (at : ℕ) (was : Slot)
    (found : IsFoundAt slots pair at) (value : was ≡ get_or slots at was) where
  read : was ≡ slot_at slots at
  read = get_or_read slots at was found.within value no_slot

  still_kept : IsKept (set slots at (record was { alive = false })) places downs ups
  still_kept = IsKept-kept slots (set slots at (record was { alive = false })) places downs ups (KeepsSlots-gone slots at was found.within read) h

  none_after : ¬ Contains (live (set slots at (record was { alive = false }))) pair
  none_after m =
      let s = live_from (set slots at (record was { alive = false })) pair m in
      let placed : place_of places pair ≡ Some s.0 = sym (ap (place_of places) s.2) ∙ still_kept.found s.0 s.1 in
      let first : place_of places pair ≡ Some at = sym (ap (place_of places) found.link_is) ∙ h.found at found.alive in
      let e : s.0 ≡ at = cc (placed, first) in
      dead_there slots at was found.within read (subst (λ t. IsAlive (set slots at (record was { alive = false })) t) e s.1)

  dropped : live (set slots at (record was { alive = false })) ≡ filter (λ q. not (same_link q pair)) (live slots)
  dropped =
      sym (none_same (live (set slots at (record was { alive = false }))) pair none_after)
      ∙ filter-live_set (λ q. not (same_link q pair)) slots at (record was { alive = false }) refl
      (not_false (same_link (slot_at slots at).link pair) (same_link_same (slot_at slots at).link pair found.link_is))

pub invariant_of-self : goal.invariant_of-self
invariant_of-self c =
    still_kept c.self.inside.slots.items c.self.inside.places c.self.inside.downs c.self.inside.ups c.self.invariant c.args.pair c.in-Some.at c.index_mut-slot.result.now
    (subst (λ (xs : List Slot). IsFoundAt xs c.args.pair c.in-Some.at) c.as_slice.ensures.value c.in-Some.ensures) c.index_mut-slot.ensures.value

pub returns-in-None-clause-dropped : goal.returns-in-None-clause-dropped
returns-in-None-clause-dropped c =
    sym (none_same c.args.self.now c.args.pair
    (subst (λ (ps : List Link). ¬ Contains ps c.args.pair) (ap live c.as_slice.ensures.value ∙ c.self.view_is) c.in-None.ensures))

pub returns-in-Some-clause-there : goal.returns-in-Some-clause-there
returns-in-Some-clause-there c = (
  λ e.
      subst (λ (ps : List Link). Contains ps c.args.pair) (ap live c.as_slice.ensures.value ∙ c.self.view_is)
      (found_has c.as_slice.result.now c.args.pair c.in-Some.at c.in-Some.ensures),
  λ m. refl,
)

pub returns-in-Some-clause-dropped : goal.returns-in-Some-clause-dropped
returns-in-Some-clause-dropped c =
    dropped c.self.inside.slots.items c.self.inside.places c.self.inside.downs c.self.inside.ups c.self.invariant c.args.pair c.in-Some.at c.index_mut-slot.result.now
    (subst (λ (xs : List Slot). IsFoundAt xs c.args.pair c.in-Some.at) c.as_slice.ensures.value c.in-Some.ensures) c.index_mut-slot.ensures.value
    ∙ ap (λ (ps : List Link). filter (λ q. not (same_link q c.args.pair)) ps) c.self.view_is
