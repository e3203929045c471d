use Rattle.std.proofs.Common.{◌≡◌, ℕ, ◌+◌, ◌<◌, Bool, true, false, cond, eqb, List, [], ◌∷◌, ◌++◌, Some, length, get_or, set, inl, refl, sym, ap, subst, ◌∙◌, arith, true≢false, length-append, rules}
use Rattle.std.specs.Prelude.{Contains}
use Rattle.std.proofs.lemmas.List.{get_or_read, get_or_push, set_at}
use Rattle.dl_sup.specs.declared.link.Link.{Link}
use Rattle.dl_sup.specs.declared.slot.Slot.{Slot}
use Rattle.dl_sup.specs.HeadLists.{head_of}
use Rattle.dl_sup.specs.Slots.{place_of, slot_at, no_slot, live, IsKept}
use Rattle.dl_sup.proofs.LinkLemmas.{same_link_same, same_link_apart}
use Rattle.dl_sup.proofs.Slots.{IsKept-pushed, raised, raised_here, live_alive, live_has}
use Rattle.dl_sup.proofs.table.Table.put.Goals as goal

pub invariant_of-self-in_err-put : goal.invariant_of-self-in_err-put
invariant_of-self-in_err-put c =
    let d : Slot = record { link = c.args.pair; alive = false; down = c.get.result; up = c.get-2.result } in
    subst (λ (xs : List Slot). IsKept xs c.self.inside.places c.put.new.self c.self.inside.ups) (sym c.in_ok-push.ensures.items)
    (IsKept-pushed c.self.inside.slots.items d c.self.inside.places c.self.inside.places c.self.inside.downs c.self.inside.ups c.put.new.self c.self.inside.ups c.self.invariant
    (λ t a. refl) (λ a. absurd (true≢false (sym a))) c.get.ensures c.get-2.ensures (λ q. inl (c.in_err-put.ensures.kept q)) (λ q. inl refl)
    (λ a. absurd (true≢false (sym a))) (λ a. absurd (true≢false (sym a))))

pub invariant_of-self-in_err-put-2 : goal.invariant_of-self-in_err-put-2
invariant_of-self-in_err-put-2 c =
    let d : Slot = record { link = c.args.pair; alive = false; down = c.get.result; up = c.get-2.result } in
    let at : c.len-at.result ≡ length c.self.inside.slots.items = search rules in
    subst (λ (xs : List Slot). IsKept xs c.self.inside.places c.put.new.self c.put-2.new.self) (sym c.in_ok-push.ensures.items)
    (IsKept-pushed c.self.inside.slots.items d c.self.inside.places c.self.inside.places c.self.inside.downs c.self.inside.ups c.put.new.self c.put-2.new.self c.self.invariant
    (λ t a. refl) (λ a. absurd (true≢false (sym a))) c.get.ensures c.get-2.ensures
    (raised c.self.inside.downs c.put.new.self c.args.pair.upper (length c.self.inside.slots.items) (subst (λ n. (q : ℕ) → head_of c.put.new.self q ≡ cond (eqb c.args.pair.upper q) (n + 1) (head_of c.self.inside.downs q)) at c.in_ok-put.ensures.put))
    (λ q. inl (c.in_err-put-2.ensures.kept q))
    (λ a. absurd (true≢false (sym a))) (λ a. absurd (true≢false (sym a))))

pub invariant_of-self-in_err-put-3 : goal.invariant_of-self-in_err-put-3
invariant_of-self-in_err-put-3 c =
    let d : Slot = record { link = c.args.pair; alive = false; down = c.get.result; up = c.get-2.result } in
    let at : c.len-at.result ≡ length c.self.inside.slots.items = search rules in
    subst (λ (xs : List Slot). IsKept xs c.put-3.new.self c.put.new.self c.put-2.new.self) (sym c.in_ok-push.ensures.items)
    (IsKept-pushed c.self.inside.slots.items d c.self.inside.places c.put-3.new.self c.self.inside.downs c.self.inside.ups c.put.new.self c.put-2.new.self c.self.invariant
    (λ t a. ap (λ (ps : List (Link × ℕ)). place_of ps (slot_at c.self.inside.slots.items t).link) c.in_err-put-3.ensures.kept) (λ a. absurd (true≢false (sym a))) c.get.ensures c.get-2.ensures
    (raised c.self.inside.downs c.put.new.self c.args.pair.upper (length c.self.inside.slots.items) (subst (λ n. (q : ℕ) → head_of c.put.new.self q ≡ cond (eqb c.args.pair.upper q) (n + 1) (head_of c.self.inside.downs q)) at c.in_ok-put.ensures.put))
    (raised c.self.inside.ups c.put-2.new.self c.args.pair.lower (length c.self.inside.slots.items) (subst (λ n. (q : ℕ) → head_of c.put-2.new.self q ≡ cond (eqb c.args.pair.lower q) (n + 1) (head_of c.self.inside.ups q)) at c.in_ok-put-2.ensures.put))
    (λ a. absurd (true≢false (sym a))) (λ a. absurd (true≢false (sym a))))

-- the pair stands last
written : (old new : List Slot) (at : ℕ) (d now : Slot) → new ≡ old ++ d ∷ [] → at ≡ length old → now ≡ get_or new at now
    → set new at (record now { alive = true }) ≡ old ++ record d { alive = true } ∷ []
written old new at d now pushed place read =
    let within : at < length new = omega (arith, ap length pushed, length-append old (d ∷ []), place) in
    let is : now ≡ d = get_or_read new at now within read no_slot ∙ ap (λ (xs : List Slot). get_or xs at no_slot) pushed ∙ get_or_push old d no_slot at (sym place) in
    ap (λ (x : Slot). set new at (record x { alive = true })) is
    ∙ ap (λ (xs : List Slot). set xs at (record d { alive = true })) pushed
    ∙ set_at old d [] (record d { alive = true }) at (sym place)

pub invariant_of-self-2 : goal.invariant_of-self-2
invariant_of-self-2 c =
    let slots = c.self.inside.slots.items in
    let d : Slot = record { link = c.args.pair; alive = false; down = c.get.result; up = c.get-2.result } in
    let at : c.len-at.result ≡ length slots = search rules in
    let put_down = subst (λ n. (q : ℕ) → head_of c.put.new.self q ≡ cond (eqb c.args.pair.upper q) (n + 1) (head_of c.self.inside.downs q)) at c.in_ok-put.ensures.put in
    let put_up = subst (λ n. (q : ℕ) → head_of c.put-2.new.self q ≡ cond (eqb c.args.pair.lower q) (n + 1) (head_of c.self.inside.ups q)) at c.in_ok-put-2.ensures.put in
    subst (λ (xs : List Slot). IsKept xs c.put-3.new.self c.put.new.self c.put-2.new.self) (sym (written slots c.push.new.self.items c.len-at.result d c.index_mut-slot.result.now c.in_ok-push.ensures.items at c.index_mut-slot.ensures.value))
    (IsKept-pushed slots (record d { alive = true }) c.self.inside.places c.put-3.new.self c.self.inside.downs c.self.inside.ups c.put.new.self c.put-2.new.self c.self.invariant
    (λ t a.
    c.in_ok-put-3.ensures.put (slot_at slots t).link
    ∙ ap (λ (b : Bool). cond b (Some c.len-at.result) (place_of c.self.inside.places (slot_at slots t).link))
    (same_link_apart c.args.pair (slot_at slots t).link
    (λ e. c.requires (subst (λ (ps : List Link). Contains ps c.args.pair) c.self.view_is (subst (Contains (live slots)) (sym e) (live_has slots t a))))))
    (λ a.
    c.in_ok-put-3.ensures.put c.args.pair
    ∙ ap (λ (b : Bool). cond b (Some c.len-at.result) (place_of c.self.inside.places c.args.pair)) (same_link_same c.args.pair c.args.pair refl)
    ∙ ap Some at)
    c.get.ensures c.get-2.ensures
    (raised c.self.inside.downs c.put.new.self c.args.pair.upper (length slots) put_down)
    (raised c.self.inside.ups c.put-2.new.self c.args.pair.lower (length slots) put_up)
    (λ a. raised_here c.self.inside.downs c.put.new.self c.args.pair.upper (length slots) put_down)
    (λ a. raised_here c.self.inside.ups c.put-2.new.self c.args.pair.lower (length slots) put_up))

pub returns-clause-put : goal.returns-clause-put
returns-clause-put c =
    let d : Slot = record { link = c.args.pair; alive = false; down = c.get.result; up = c.get-2.result } in
    let at : c.len-at.result ≡ length c.self.inside.slots.items = search rules in
    ap live (written c.self.inside.slots.items c.push.new.self.items c.len-at.result d c.index_mut-slot.result.now c.in_ok-push.ensures.items at c.index_mut-slot.ensures.value)
    ∙ live_alive c.self.inside.slots.items (record d { alive = true }) refl
    ∙ ap (λ (ps : List Link). ps ++ c.args.pair ∷ []) c.self.view_is
