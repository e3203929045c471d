-- Nodes with gates: the queue at the end is the least set that each gate asks for.
use Rattle.std.proofs.Common.{◌≡◌, ℕ, ◌/◌, ◌%◌, ◌<◌, ◌≤◌, Bool, true, cond, List, [], ◌∷◌, length, take, get_or, inl, inr, ◌⊎◌, sym, subst, ap, refl, ◌∙◌, arith, true≢false}
use Rattle.std.specs.List.{flat_map}
use Rattle.std.proofs.lemmas.Bool.{eqb-true}
use Rattle.std.proofs.lemmas.Bool.Decides.{eqb_tells}
use Rattle.std.proofs.lemmas.List.Concat.{flat_map-cons}
use Rattle.dl_graph.specs.Counting.{times}
use Rattle.dl_fill.specs.Counting.{overlap}
use Rattle.dl_fill.specs.Counters.{CounterLists}
use Rattle.dl_fill.proofs.Times.{times-take, times-take_more, times-append, times_cons_same, overlap-nil_right, overlap-cons_right, overlap_all, overlap_full, overlap_some, overlap_has}
use Rattle.dl_fill.proofs.Engine.{IsClosedFrom, IsSettled}
use Rattle.dl_fill.proofs.Nodes.{times_through_same, times_through_other}
use Rattle.dl_graph.specs.Numbers.{NetLists, next, back}
use Rattle.dl_fill.proofs.Links.{links_turned}
use Rattle.dl_fill.specs.declared.wire.Wire.{Wire}
use Rattle.dl_fill.specs.declared.wire.Gate.{Gate}
use Rattle.dl_fill.specs.declared.wire.Gate.TheVariants.{Every, Either, Now, Never}
use Rattle.dl_graph.specs.declared.link.Link.{Link}
use Rattle.dl_graph.specs.declared.link.Link.TheVariants.{Same, Uses, Backs, Proves, Opposes, Defends, Counters}
use Rattle.dl_fill.proofs.Once.{times-filter_kept}
use Rattle.dl_fill.specs.Wires.{through, edges_by, edges, inner, inputs_by, inputs, AreKinds, IsLive}
use Rattle.dl_fill.specs.Gates.{awaited, at_once, Passes}

module _ (N : NetLists) (inside : ℕ → Bool) (s : ℕ) where
  -- a link, turned round, from what is inside
  inner_turned : (link : Link) (x y : ℕ) → (link ≡ Uses → inside x ≡ true) → times y (next N link x) ≡ times x (inner N inside link y)
  inner_turned Same x y h = links_turned N Same x y
  inner_turned Uses x y h = links_turned N Uses x y ∙ sym (times-filter_kept inside x (back N Uses y) (h refl))
  inner_turned Backs x y h = links_turned N Backs x y
  inner_turned Proves x y h = links_turned N Proves x y
  inner_turned Opposes x y h = links_turned N Opposes x y
  inner_turned Defends x y h = links_turned N Defends x y
  inner_turned Counters x y h = links_turned N Counters x y

  by_turned : (w : Wire) (x y : ℕ) → w.from < s → w.to < s → (w.link ≡ Uses → w.from ≡ x % s → inside (x / s) ≡ true)
      → times y (edges_by N s x w) ≡ times x (inputs_by N inside s (y % s) (y / s) w)
  by_turned w x y from to live =
      elim (eqb_tells w.from (x % s)) [
        | inl f ↦ subst (λ (a : Bool). times y (cond a (through s w.to (next N w.link (x / s))) []) ≡ times x (inputs_by N inside s (y % s) (y / s) w)) (sym f.0)
            (elim (eqb_tells w.to (y % s)) [
              | inl t ↦ subst (λ (b : Bool). times y (through s w.to (next N w.link (x / s))) ≡ times x (cond b (through s w.from (inner N inside w.link (y / s))) [])) (sym t.0)
                  (times_through_same s w.to y (next N w.link (x / s)) to t.1
                  ∙ inner_turned w.link (x / s) (y / s) (λ e. live e f.1)
                  ∙ sym (times_through_same s w.from x (inner N inside w.link (y / s)) from f.1))
              | inr t ↦ subst (λ (b : Bool). times y (through s w.to (next N w.link (x / s))) ≡ times x (cond b (through s w.from (inner N inside w.link (y / s))) [])) (sym t.0)
                  (times_through_other s w.to y (next N w.link (x / s)) to t.1)
            ])
        | inr f ↦ subst (λ (a : Bool). times y (cond a (through s w.to (next N w.link (x / s))) []) ≡ times x (inputs_by N inside s (y % s) (y / s) w)) (sym f.0)
            (elim (eqb_tells w.to (y % s)) [
              | inl t ↦ subst (λ (b : Bool). 0 ≡ times x (cond b (through s w.from (inner N inside w.link (y / s))) [])) (sym t.0)
                  (sym (times_through_other s w.from x (inner N inside w.link (y / s)) from f.1))
              | inr t ↦ subst (λ (b : Bool). 0 ≡ times x (cond b (through s w.from (inner N inside w.link (y / s))) [])) (sym t.0) refl
            ])
      ]

  -- a table of wires, turned round
  pub turned : (wires : List Wire) → AreKinds s wires → (x y : ℕ) → IsLive inside s wires x → times y (edges N s wires x) ≡ times x (inputs N inside s wires y)
  turned [] kinds x y live = refl
  turned (w ∷ ws) kinds x y live =
      ap (times y) (flat_map-cons (edges_by N s x) w ws)
      ∙ omega (
        arith,
        times-append y (edges_by N s x w) (edges N s ws x),
        times-append x (inputs_by N inside s (y % s) (y / s) w) (inputs N inside s ws y),
        by_turned w x y kinds.0 kinds.1 live.0,
        turned ws kinds.2 x y live.1,
      )

none_in : (xs : List ℕ) → length xs ≡ 0 → (x : ℕ) → 0 < times x xs → ⊥
none_in [] e x h = omega arith
none_in (z ∷ zs) e x h = omega arith

module _ (inputs : ℕ → List ℕ) (gate : ℕ → Gate) where
  -- how many hits a node waits for, and whether it fires at once
  abbrev pub start : ℕ → ℕ
  start y = awaited (gate y) (inputs y)

  abbrev pub given : ℕ → Bool
  given y = at_once (gate y) (inputs y)

  free_by : (g : Gate) (xs : List ℕ) → at_once g xs ≡ true → awaited g xs ≡ 0
  free_by Every xs e = eqb-true (length xs) 0 e
  free_by Either xs e = absurd (true≢false (sym e))
  free_by Now xs e = refl
  free_by Never xs e = refl

  pub free : (y : ℕ) → given y ≡ true → start y ≡ 0
  free y e = free_by (gate y) (inputs y) e

  passes_at_once : (P : ℕ → Type 0) (g : Gate) (xs : List ℕ) → at_once g xs ≡ true → Passes P g xs
  passes_at_once P Every xs e = λ x h. absurd (none_in xs (eqb-true (length xs) 0 e) x h)
  passes_at_once P Either xs e = absurd (true≢false (sym e))
  passes_at_once P Now xs e = tt
  passes_at_once P Never xs e = absurd (true≢false (sym e))

  passes_by_hits : (P : ℕ → Type 0) (g : Gate) (xs done : List ℕ) → ((x : ℕ) → times x done ≤ 1) → ((x : ℕ) → 0 < times x done → P x)
      → 0 < awaited g xs → awaited g xs ≤ overlap xs done → Passes P g xs
  passes_by_hits P Every xs done once h some few = λ x m. h x (overlap_all xs done once few x m)
  passes_by_hits P Either xs done once h some few = let r = overlap_some xs done few in (r.0, r.1, h r.0 r.2)
  passes_by_hits P Now xs done once h some few = tt
  passes_by_hits P Never xs done once h some few = absurd (omega arith)

  reached_by : (g : Gate) (xs done : List ℕ) → Passes (λ x. 0 < times x done) g xs
      → (at_once g xs ≡ true) ⊎ ((0 < awaited g xs) × (awaited g xs ≤ overlap xs done))
  reached_by Every xs done h = elim (eqb_tells (length xs) 0) [
    | inl e ↦ inl e.0
    | inr n ↦ inr (omega (arith, n.1), overlap_full xs done h)
  ]
  reached_by Either xs done h = inr (omega arith, overlap_has xs done h.0 h.1 h.2)
  reached_by Now xs done h = inl refl
  reached_by Never xs done h = absurd h

  -- the inputs of a node count the edges from nodes with a meaning; others are never popped
  module _ (edges : ℕ → List ℕ) (Means : ℕ → Type 0) (turned : (x y : ℕ) → Means x → times y (edges x) ≡ times x (inputs y)) where
    gathered : (y : ℕ) (xs : List ℕ) → ((x : ℕ) → 0 < times x xs → Means x) → times y (flat_map edges xs) ≡ overlap (inputs y) xs
    gathered y [] h = sym (overlap-nil_right (inputs y))
    gathered y (x ∷ xs) h =
        rw flat_map-cons
        (omega (
          arith,
          times-append y (edges x) (flat_map edges xs),
          turned x y (h x (omega (arith, times_cons_same x x xs refl))),
          gathered y xs (λ z m. h z (omega arith)),
          overlap-cons_right (inputs y) x xs,
        ))

    -- a meaning that each gate keeps is one that the queue keeps
    pub closed_from : ((y : ℕ) → Passes Means (gate y) (inputs y) → Means y) → IsClosedFrom start given free edges Means
    closed_from step = record {
      at_once = λ y e. step y (passes_at_once Means (gate y) (inputs y) e);
      by_hits = λ xs once h y some few.
          step y (passes_by_hits Means (gate y) (inputs y) xs once h some (subst (λ (n : ℕ). start y ≤ n) (gathered y xs h) few));
    }

    -- at the end a node whose gate is passed stands in the queue
    pub settled_has : (w : CounterLists) → IsSettled start given free edges Means w → (y : ℕ) → y < length w.need
        → Passes (λ x. 0 < times x w.queue) (gate y) (inputs y) → 0 < times y w.queue
    settled_has w s y lt h =
        s.complete y lt (elim (reached_by (gate y) (inputs y) w.queue h) [
          | inl e ↦ inl e
          | inr r ↦ inr (r.0, subst (λ (n : ℕ). start y ≤ n) (sym (gathered y w.queue s.means)) r.1)
        ])

    -- the gate of each node of the queue is passed by nodes before it
    pub settled_order : (w : CounterLists) → IsSettled start given free edges Means w → (i : ℕ) → i < length w.queue
        → Passes (λ x. 0 < times x (take i w.queue)) (gate (get_or w.queue i 0)) (inputs (get_or w.queue i 0))
    settled_order w s i lt =
        let o = s.order i lt in
        elim o.2 [
          | inl g ↦ passes_at_once (λ x. 0 < times x (take i w.queue)) (gate (get_or w.queue i 0)) (inputs (get_or w.queue i 0)) g
          | inr r ↦
              passes_by_hits (λ x. 0 < times x (take i w.queue)) (gate (get_or w.queue i 0)) (inputs (get_or w.queue i 0)) (take o.0 w.queue)
              (λ x. omega (arith, s.once x, times-take x o.0 w.queue))
              (λ x m. omega (arith, m, times-take_more x o.0 i w.queue o.1)) r.0
              (subst (λ (n : ℕ). start (get_or w.queue i 0) ≤ n)
              (gathered (get_or w.queue i 0) (take o.0 w.queue) (λ x m. s.means x (omega (arith, m, times-take x o.0 w.queue)))) r.1)
        ]
