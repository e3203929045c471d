-- The wires of a kind alone make what all of the wires make at a node of the kind.
use Rattle.std.proofs.Common.{◌≡◌, ℕ, ◌+◌, ◌-◌, ◌/◌, ◌%◌, ◌<◌, ◌≤◌, Bool, cond, List, [], ◌∷◌, ◌++◌, length, take, drop, get_or, replicate, inl, inr, ◌⊎◌, sym, subst, ap, refl, ◌∙◌, arith}
use Rattle.std.specs.Prelude.{All, slice_index}
use Rattle.std.specs.List.{flat_map}
use Rattle.std.proofs.lemmas.Bool.{cases_eq, ne_eqb}
use Rattle.std.proofs.lemmas.Grind.{flat_map-append}
use Rattle.std.proofs.lemmas.List.{append-nil, take-append-drop, get_or-take, get_or-drop, length-take, length-drop}
use Rattle.std.proofs.lemmas.List.Concat.{flat_map-cons}
use Rattle.std.proofs.lemmas.List.Elements.{All-head, All-tail}
use Rattle.std.proofs.lemmas.Option.{slice_get-get_or}
use Rattle.dl_graph.specs.Numbers.{NetLists, next}
use Rattle.dl_fill.specs.declared.spans.Spans.{Spans}
use Rattle.dl_fill.specs.declared.wire.Wire.{Wire}
use Rattle.dl_fill.specs.Spans.{IsSpans}
use Rattle.dl_fill.proofs.Solving.{zeros}
use Rattle.dl_fill.specs.Wires.{through, edges, edges_by, inner, inputs_by, inputs_at}

module _ {X : Type 0} (f : X → List ℕ) where
  none_made : (xs : List X) → All (λ x. f x ≡ []) xs → flat_map f xs ≡ []
  none_made [] h = refl
  none_made (x ∷ xs) h =
      flat_map-cons f x xs ∙ ap (λ (ys : List ℕ). ys ++ flat_map f xs) (All-head (λ x. f x ≡ []) x xs h) ∙ none_made xs (All-tail (λ x. f x ≡ []) x xs h)

  -- those outside a span make none
  span_makes : (xs : List X) (start end : ℕ) → start ≤ end → end ≤ length xs
      → ((i : ℕ) (d : X) → i < length xs → (i < start) ⊎ (end ≤ i) → f (get_or xs i d) ≡ [])
      → flat_map f (take (end - start) (drop start xs)) ≡ flat_map f xs
  span_makes xs start end ordered inside out =
      let part : List X = take (end - start) (drop start xs) in
      let rest : List X = drop (end - start) (drop start xs) in
      let before : flat_map f (take start xs) ≡ [] =
      none_made (take start xs)
      (λ k d lt.
      subst (λ (x : X). f x ≡ []) (sym (get_or-take start xs k d (omega (arith, lt, length-take start xs))))
      (out k d (omega (arith, lt, length-take start xs)) (inl (omega (arith, lt, length-take start xs))))) in
      let after : flat_map f (drop (end - start) (drop start xs)) ≡ [] =
      none_made (drop (end - start) (drop start xs))
      (λ k d lt.
      subst (λ (x : X). f x ≡ []) (sym (get_or-drop (end - start) (drop start xs) k d ∙ get_or-drop start xs (end - start + k) d))
      (out (start + (end - start + k)) d (omega (arith, lt, length-drop (end - start) (drop start xs), length-drop start xs)) (inr (omega (arith, ordered))))) in
      sym
      (ap (flat_map f) (sym (take-append-drop start xs)) ∙ flat_map-append f (take start xs) (drop start xs)
      ∙ ap (λ (ys : List ℕ). ys ++ flat_map f (drop start xs)) before
      ∙ ap (flat_map f) (sym (take-append-drop (end - start) (drop start xs)))
      ∙ flat_map-append f (take (end - start) (drop start xs)) (drop (end - start) (drop start xs))
      ∙ ap (λ (ys : List ℕ). flat_map f (take (end - start) (drop start xs)) ++ ys) after
      ∙ append-nil (flat_map f (take (end - start) (drop start xs))))

pub none_spanned : (of : Wire → ℕ) (wires : List Wire) → IsSpans of wires 0 (record { starts = replicate 32 0; ends = replicate 32 0 })
none_spanned of wires = record {
  within = record { ordered = λ k. omega (arith, zeros 32 k); inside = λ k. omega (arith, zeros 32 k) };
  there = λ i w lt e small. absurd (omega arith);
}

-- where the wires of other kinds make none
module _ (of : Wire → ℕ) (f : Wire → List ℕ) (kind : ℕ) (other : (w : Wire) → (of w ≡ kind) ⊎ (f w ≡ [])) where
  pub part_makes : (wires : List Wire) (spans : Spans) → IsSpans of wires (length wires) spans → kind < 32
      → flat_map f (take (slice_index spans.ends kind - slice_index spans.starts kind) (drop (slice_index spans.starts kind) wires)) ≡ flat_map f wires
  part_makes wires spans h small =
      span_makes f wires (slice_index spans.starts kind) (slice_index spans.ends kind) (h.within.ordered kind) (h.within.inside kind)
      (λ i d lt outside. elim (other (get_or wires i d)) [
        | inl is ↦
            let t = h.there i (get_or wires i d) lt (slice_get-get_or wires i d lt) (omega (arith, is, small)) in
            let starts : slice_index spans.starts kind ≤ i = subst (λ (k : ℕ). slice_index spans.starts k ≤ i) is t.0 in
            let ends : i < slice_index spans.ends kind = subst (λ (k : ℕ). i < slice_index spans.ends k) is t.1 in
            elim outside [
              | inl before ↦ absurd (omega (arith, before, starts))
              | inr after ↦ absurd (omega (arith, after, ends))
            ]
        | inr none ↦ none
      ])

module _ (N : NetLists) (s x : ℕ) (part wires : List Wire) where
  made_from : (w : Wire) → (w.from ≡ x % s) ⊎ (edges_by N s x w ≡ [])
  made_from w = elim (cases_eq w.from (x % s)) [
    | inl is ↦ inl is
    | inr not ↦ inr (ap (λ (b : Bool). cond b (through s w.to (next N w.link (x / s))) []) (ne_eqb w.from (x % s) not))
  ]

  pub edges_spanned : ((f : Wire → List ℕ) → ((w : Wire) → (w.from ≡ x % s) ⊎ (f w ≡ [])) → flat_map f part ≡ flat_map f wires) → edges N s part x ≡ edges N s wires x
  edges_spanned same = same (edges_by N s x) made_from

module _ (N : NetLists) (inside : ℕ → Bool) (s kind place : ℕ) where
  made_to : (w : Wire) → (w.to ≡ kind) ⊎ (inputs_by N inside s kind place w ≡ [])
  made_to w = elim (cases_eq w.to kind) [
    | inl is ↦ inl is
    | inr not ↦ inr (ap (λ (b : Bool). cond b (through s w.from (inner N inside w.link place)) []) (ne_eqb w.to kind not))
  ]

  inputs_made : (wires : List Wire) → inputs_at N inside s wires kind place ≡ flat_map (inputs_by N inside s kind place) wires
  inputs_made [] = refl
  inputs_made (w ∷ ws) =
      ap (λ (ys : List ℕ). inputs_by N inside s kind place w ++ ys) (inputs_made ws) ∙ sym (flat_map-cons (inputs_by N inside s kind place) w ws)

  pub inputs_spanned : (part wires : List Wire)
      → ((f : Wire → List ℕ) → ((w : Wire) → (w.to ≡ kind) ⊎ (f w ≡ [])) → flat_map f part ≡ flat_map f wires)
      → inputs_at N inside s part kind place ≡ inputs_at N inside s wires kind place
  inputs_spanned part wires same = inputs_made part ∙ same (inputs_by N inside s kind place) made_to ∙ sym (inputs_made wires)
