-- Steps of the loops that make hits.
use Rattle.std.proofs.Common.{◌≡◌, ℕ, zero, suc, ◌+◌, ◌*◌, ◌/◌, ◌%◌, ◌<◌, cond, Bool, List, [], ◌∷◌, ◌++◌, length, take, get_or, sym, subst, ap, refl, ◌∙◌, arith}
use Rattle.std.specs.List.{fold, flat_map}
use Rattle.std.proofs.lemmas.Bool.{eq-eqb, ne_eqb}
use Rattle.dl_graph.specs.Numbers.{NetLists, next}
use Rattle.dl_fill.specs.declared.wire.Wire.{Wire}
use Rattle.dl_fill.specs.Wires.{through, edges, edges_by}
use Rattle.std.proofs.lemmas.List.Sums.{fold_more, fold-append}
use Rattle.std.proofs.lemmas.List.{take_more, take_all}
use Rattle.std.proofs.lemmas.List.Concat.{flat_map-cons}
use Rattle.std.proofs.lemmas.Grind.{flat_map-append}
use Rattle.std.proofs.lemmas.List.{append-nil}
use Rattle.dl_graph.specs.Counting.{times}
use Rattle.dl_fill.specs.Counters.{CounterLists, hit}
use Rattle.dl_fill.proofs.Times.{times-append, times-get_or}

-- the j-th number that a wire makes of xs
pub made_at : (s to : ℕ) (xs : List ℕ) (i : ℕ) → i < length xs → get_or (through s to xs) i 0 ≡ get_or xs i 0 * s + to
made_at s to [] i h = absurd (omega arith)
made_at s to (x ∷ xs) zero h = refl
made_at s to (x ∷ xs) (suc i) h = made_at s to xs i (omega arith)

pub length-made : (s to : ℕ) (xs : List ℕ) → length (through s to xs) ≡ length xs
length-made s to [] = refl
length-made s to (x ∷ xs) = ap suc (length-made s to xs)

pub made_inside : (s to n : ℕ) (xs : List ℕ) → ((y : ℕ) → 0 < times y (through s to xs) → y < n)
    → (i : ℕ) → i < length xs → get_or xs i 0 * s + to < n
made_inside s to n xs h i lt =
    subst (λ (v : ℕ). v < n) (made_at s to xs i lt)
    (h (get_or (through s to xs) i 0) (times-get_or (through s to xs) i 0 (omega (arith, length-made s to xs))))

pub send_step : (s : ℕ) (w : CounterLists) (to : ℕ) (xs : List ℕ) (i : ℕ) → i < length xs
    → fold hit w (take (i + 1) (through s to xs)) ≡ hit (fold hit w (take i (through s to xs))) (get_or xs i 0 * s + to)
send_step s w to xs i lt =
    fold_more hit w (through s to xs) i 0 (omega (arith, length-made s to xs))
    ∙ ap (hit (fold hit w (take i (through s to xs)))) (made_at s to xs i lt)

pub send_ends : (s : ℕ) (w : CounterLists) (to : ℕ) (xs : List ℕ) → fold hit w (take (length xs) (through s to xs)) ≡ fold hit w (through s to xs)
send_ends s w to xs = ap (fold hit w) (take_all (length xs) (through s to xs) (omega (arith, length-made s to xs)))

module _ (N : NetLists) (s x : ℕ) where
  -- a wire's numbers are among the edges
  pub edge_in : (wires : List Wire) (i : ℕ) (d : Wire) (y : ℕ) → i < length wires → (get_or wires i d).from ≡ x % s
      → 0 < times y (through s (get_or wires i d).to (next N (get_or wires i d).link (x / s))) → 0 < times y (edges N s wires x)
  edge_in [] i d y lt e h = absurd (omega arith)
  edge_in (w ∷ ws) zero d y lt e h =
      rw flat_map-cons
      (omega (
        arith,
        times-append y (edges_by N s x w) (edges N s ws x),
        subst (λ (b : Bool). 0 < times y (cond b (through s w.to (next N w.link (x / s))) [])) (sym (eq-eqb w.from (x % s) e)) h,
      ))
  edge_in (w ∷ ws) (suc i) d y lt e h =
      rw flat_map-cons (omega (arith, times-append y (edges_by N s x w) (edges N s ws x), edge_in ws i d y (omega arith) e h))

  fire_step : (start : CounterLists) (wires : List Wire) (i : ℕ) (d : Wire) → i < length wires
      → fold hit start (flat_map (edges_by N s x) (take (i + 1) wires)) ≡ fold hit (fold hit start (flat_map (edges_by N s x) (take i wires))) (edges_by N s x (get_or wires i d))
  fire_step start wires i d lt =
      ap (fold hit start)
      (ap (flat_map (edges_by N s x)) (take_more wires i d lt) ∙ flat_map-append (edges_by N s x) (take i wires) (get_or wires i d ∷ [])
      ∙ ap (λ (ys : List ℕ). flat_map (edges_by N s x) (take i wires) ++ ys) (flat_map-cons (edges_by N s x) (get_or wires i d) [] ∙ append-nil (edges_by N s x (get_or wires i d))))
      ∙ fold-append hit start (flat_map (edges_by N s x) (take i wires)) (edges_by N s x (get_or wires i d))

  pub fire_sends : (start : CounterLists) (wires : List Wire) (i : ℕ) (d : Wire) → i < length wires → (get_or wires i d).from ≡ x % s
      → fold hit start (flat_map (edges_by N s x) (take (i + 1) wires))
      ≡ fold hit (fold hit start (flat_map (edges_by N s x) (take i wires))) (through s (get_or wires i d).to (next N (get_or wires i d).link (x / s)))
  fire_sends start wires i d lt e =
      let w : Wire = get_or wires i d in
      fire_step start wires i d lt
      ∙ ap (λ (b : Bool). fold hit (fold hit start (flat_map (edges_by N s x) (take i wires))) (cond b (through s (get_or wires i d).to (next N (get_or wires i d).link (x / s))) []))
      (eq-eqb (get_or wires i d).from (x % s) e)

  pub fire_skips : (start : CounterLists) (wires : List Wire) (i : ℕ) (d : Wire) → i < length wires → ((get_or wires i d).from ≡ x % s → ⊥)
      → fold hit start (flat_map (edges_by N s x) (take (i + 1) wires)) ≡ fold hit start (flat_map (edges_by N s x) (take i wires))
  fire_skips start wires i d lt n =
      fire_step start wires i d lt
      ∙ ap (λ (b : Bool). fold hit (fold hit start (flat_map (edges_by N s x) (take i wires))) (cond b (through s (get_or wires i d).to (next N (get_or wires i d).link (x / s))) []))
      (ne_eqb (get_or wires i d).from (x % s) n)
