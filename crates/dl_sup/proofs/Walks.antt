-- What a search that ended found: a walk, or items that no pair leads out of.
use Rattle.std.proofs.Common.{◌≡◌, ℕ, zero, suc, ◌<◌, ◌≤◌, List, [], ◌∷◌, ◌++◌, length, reverse, refl, sym, ap, subst, ◌∙◌, append_assoc, arith}
use Rattle.std.specs.Prelude.{Contains}
use Rattle.std.proofs.Math.ListN.{length-map}
use Rattle.std.proofs.lemmas.List.{reverse-append, get_or_default}
use Rattle.std.proofs.lemmas.List.Elements.{Contains-get_or}
use Rattle.dl_base.specs.Paths.{Descends, last_of}
use Rattle.dl_sup.specs.declared.link.Link.{Link}
use Rattle.dl_sup.specs.declared.slot.Slot.{Slot}
use Rattle.dl_sup.specs.declared.front.Front.{Front}
use Rattle.dl_sup.specs.declared.slot.Way.{Way}
use Rattle.dl_sup.specs.declared.slot.Way.TheVariants.{Down, Up}
use Rattle.dl_sup.specs.Links.{IsOver}
use Rattle.dl_sup.specs.Slots.{near, far, slot_at, IsAlive, live}
use Rattle.dl_sup.specs.Searching.{items_of, item_at, from_at, trail, trail_by, IsFront, IsWalk, ClosedBelow, ClosedAbove}
use Rattle.dl_sup.proofs.Slots.{live_from}
use Rattle.dl_sup.proofs.VisitLemmas.{item_of}

module _ (pairs : List Link) (visits : List (ℕ × ℕ)) where
  module _ (traced : (k : ℕ) → 0 < k → k < length visits → (from_at visits k < k) × IsOver pairs (item_at visits k) (item_at visits (from_at visits k))) where
    -- a search upwards leaves a walk down to where it began
    up_walk : (n k : ℕ) → k ≤ n → k < length visits
        → Descends (IsOver pairs) (item_at visits k) (trail_by n visits k) × (last_of (IsOver pairs) (item_at visits k) (trail_by n visits k) ≡ item_at visits 0)
    up_walk zero zero fits within = (tt, refl)
    up_walk zero (suc k) fits within = absurd (omega (arith, fits))
    up_walk (suc n) zero fits within = (tt, refl)
    up_walk (suc n) (suc k) fits within =
        let step = traced (suc k) (omega arith) within in
        let more = up_walk n (from_at visits (suc k)) (omega (arith, step.0, fits)) (omega (arith, step.0, within)) in
        ((step.1, more.0), more.1)

  module _ (traced : (k : ℕ) → 0 < k → k < length visits → (from_at visits k < k) × IsOver pairs (item_at visits (from_at visits k)) (item_at visits k)) where
    -- a search downwards leaves one from where it began, which another walk goes on
    down_walk : (n k : ℕ) (more : List ℕ) → k ≤ n → k < length visits → Descends (IsOver pairs) (item_at visits k) more
        → (rest : List ℕ) × (reverse (trail_by n visits k) ++ item_at visits k ∷ more ≡ item_at visits 0 ∷ rest) × Descends (IsOver pairs) (item_at visits 0) rest
        × (last_of (IsOver pairs) (item_at visits 0) rest ≡ last_of (IsOver pairs) (item_at visits k) more)
    down_walk zero zero more fits within d = (more, refl, d, refl)
    down_walk zero (suc k) more fits within d = absurd (omega (arith, fits))
    down_walk (suc n) zero more fits within d = (more, refl, d, refl)
    down_walk (suc n) (suc k) more fits within d =
        let step = traced (suc k) (omega arith) within in
        let from = from_at visits (suc k) in
        let front = trail_by n visits from in
        let rest = down_walk n from (item_at visits (suc k) ∷ more) (omega (arith, step.0, fits)) (omega (arith, step.0, within)) (step.1, d) in (
          rest.0,
          ap (λ (xs : List ℕ). xs ++ item_at visits (suc k) ∷ more) (reverse-append (item_at visits from ∷ []) front)
              ∙ append_assoc (reverse front) (item_at visits from ∷ []) (item_at visits (suc k) ∷ more)
              ∙ rest.1,
          rest.2,
          rest.3,
        )

-- both ends met an item
pub met_walk : (slots : List Slot) (low high : Front) (k j from to : ℕ) → IsFront Down slots low → IsFront Up slots high → k < length low.visits → j < length high.visits
    → item_at low.visits k ≡ item_at high.visits j → item_at low.visits 0 ≡ from → item_at high.visits 0 ≡ to
    → IsWalk (live slots) from to (reverse (trail low.visits k) ++ item_at low.visits k ∷ trail high.visits j)
met_walk slots low high k j from to l h k_within j_within same begins ends =
    let up = up_walk (live slots) high.visits h.traced j j (omega arith) j_within in
    let down = down_walk (live slots) low.visits l.traced k k (trail high.visits j) (omega arith) k_within
    (subst (λ x. Descends (IsOver (live slots)) x (trail high.visits j)) (sym same) up.0) in
    record {
      rest = down.0;
      begins = down.1 ∙ ap (λ x. x ∷ down.0) begins;
      ends =
          ap (λ x. last_of (IsOver (live slots)) x down.0) (sym begins)
          ∙ down.3
          ∙ ap (λ x. last_of (IsOver (live slots)) x (trail high.visits j)) same
          ∙ up.1
          ∙ ends;
      descends = subst (λ x. Descends (IsOver (live slots)) x down.0) begins down.2;
    }

-- an end that turned past its last item
module _ (way : Way) (slots : List Slot) (f : Front) (h : IsFront way slots f) where
  pub has_first : (item : ℕ) → item_at f.visits 0 ≡ item → Contains (items_of f.visits) item
  has_first item e =
      subst (Contains (items_of f.visits)) (item_of f.visits 0 h.started ∙ e)
      (Contains-get_or (items_of f.visits) 0 0 (subst (λ n. 0 < n) (sym (length-map f.visits (λ (v : ℕ × ℕ). v.0))) h.started))

  pub leads_on : f.next ≡ length f.visits → (t : ℕ) → IsAlive slots t → Contains (items_of f.visits) (near way (slot_at slots t)) → Contains (items_of f.visits) (far way (slot_at slots t))
  leads_on ended t a m =
      let within : m.0 < length f.visits = subst (λ n. m.0 < n) (length-map f.visits (λ (v : ℕ × ℕ). v.0)) m.1 in
      h.passed m.0 t (omega (arith, within, ended)) a
      (sym m.2 ∙ get_or_default (items_of f.visits) m.0 (near way (slot_at slots t)) 0 m.1 ∙ item_of f.visits m.0 within)

pub closed_below : (slots : List Slot) (f : Front) (from to : ℕ) → IsFront Down slots f → f.next ≡ length f.visits → item_at f.visits 0 ≡ from
    → (¬ Contains (items_of f.visits) to) → ClosedBelow (live slots) from to
closed_below slots f from to h ended begins lacks = record {
  seen = items_of f.visits;
  has = has_first Down slots f h from begins;
  lacks = lacks;
  closed = λ x y m over.
      let at = live_from slots _ over in
      subst (Contains (items_of f.visits)) (ap (λ (q : Link). q.lower) at.2)
      (leads_on Down slots f h ended at.0 at.1 (subst (Contains (items_of f.visits)) (sym (ap (λ (q : Link). q.upper) at.2)) m));
}

pub closed_above : (slots : List Slot) (f : Front) (from to : ℕ) → IsFront Up slots f → f.next ≡ length f.visits → item_at f.visits 0 ≡ to
    → (¬ Contains (items_of f.visits) from) → ClosedAbove (live slots) from to
closed_above slots f from to h ended begins lacks = record {
  seen = items_of f.visits;
  has = has_first Up slots f h to begins;
  lacks = lacks;
  closed = λ x y m over.
      let at = live_from slots _ over in
      subst (Contains (items_of f.visits)) (ap (λ (q : Link). q.upper) at.2)
      (leads_on Up slots f h ended at.0 at.1 (subst (Contains (items_of f.visits)) (sym (ap (λ (q : Link). q.lower) at.2)) m));
}
