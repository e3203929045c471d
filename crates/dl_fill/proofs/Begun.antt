-- The counters before the run, one node at a time; and the run itself.
use Rattle.std.proofs.Common.{◌≡◌, ◌≢◌, ℕ, zero, suc, ◌+◌, ◌<◌, ◌≤◌, Bool, true, false, cond, List, [], ◌∷◌, ◌++◌, length, take, get_or, inl, inr, sym, ap, refl, ◌∙◌, arith, length-append, append_assoc, true≢false}
use Rattle.std.specs.Prelude.{nat_lt}
use Rattle.std.proofs.lemmas.Bool.{cases_lt, eq-eqb, ne_eqb}
use Rattle.std.proofs.lemmas.List.{take_more, append-nil}
use Rattle.dl_graph.specs.Counting.{times}
use Rattle.dl_fill.specs.Counters.{CounterLists}
use Rattle.dl_fill.proofs.Times.{times_push_same, times_push_other}
use Rattle.dl_fill.proofs.Engine.{IsClosedFrom, IsRun, IsSettled, run_pops, run_ends, length-hits}
use Rattle.dl_graph.specs.Numbers.{NetLists}
use Rattle.dl_fill.specs.declared.wire.Wire.{Wire}
use Rattle.dl_fill.specs.declared.wire.Gate.{Gate}
use Rattle.dl_fill.specs.declared.wire.Gate.TheVariants.{Every, Either, Now, Never}
use Rattle.dl_fill.specs.Wires.{through, inner, inputs_by, inputs_at}
use Rattle.dl_fill.specs.Gates.{hits_of, now_of, at_once}
use Rattle.dl_fill.specs.Prepared.{begun, one_if, IsBegun}
use Rattle.dl_fill.specs.Runs.{Fires, IsRunOut}
use Rattle.dl_fill.proofs.Network.{start, given, free}
use Rattle.dl_fill.proofs.Hits.{length-made}
use Rattle.dl_fill.proofs.Times.{times-get_or}

module _ (N : NetLists) (inside : ℕ → Bool) (s : ℕ) where
  inputs-append : (xs ys : List Wire) (k j : ℕ) → inputs_at N inside s (xs ++ ys) k j ≡ inputs_at N inside s xs k j ++ inputs_at N inside s ys k j
  inputs-append [] ys k j = refl
  inputs-append (w ∷ ws) ys k j =
      ap (λ (r : List ℕ). inputs_by N inside s k j w ++ r) (inputs-append ws ys k j) ∙ sym (append_assoc (inputs_by N inside s k j w) (inputs_at N inside s ws k j) (inputs_at N inside s ys k j))

  inputs_more : (wires : List Wire) (i : ℕ) (d : Wire) (k j : ℕ) → i < length wires
      → length (inputs_at N inside s (take (i + 1) wires) k j) ≡ length (inputs_at N inside s (take i wires) k j) + length (inputs_by N inside s k j (get_or wires i d))
  inputs_more wires i d k j lt =
      ap (λ (ws : List Wire). length (inputs_at N inside s ws k j)) (take_more wires i d lt)
      ∙ ap length (inputs-append (take i wires) (get_or wires i d ∷ []) k j)
      ∙ length-append (inputs_at N inside s (take i wires) k j) (inputs_by N inside s k j (get_or wires i d) ++ [])
      ∙ ap (λ (xs : List ℕ). length (inputs_at N inside s (take i wires) k j) + length xs) (append-nil (inputs_by N inside s k j (get_or wires i d)))

  pub inputs_come : (wires : List Wire) (i : ℕ) (d : Wire) (k j : ℕ) → i < length wires → (get_or wires i d).to ≡ k
      → length (inputs_at N inside s (take (i + 1) wires) k j) ≡ length (inputs_at N inside s (take i wires) k j) + length (inner N inside (get_or wires i d).link j)
  inputs_come wires i d k j lt e =
      inputs_more wires i d k j lt
      ∙ ap (λ (b : Bool). length (inputs_at N inside s (take i wires) k j) + length (cond b (through s (get_or wires i d).from (inner N inside (get_or wires i d).link j)) [])) (eq-eqb (get_or wires i d).to k e)
      ∙ ap (λ (n : ℕ). length (inputs_at N inside s (take i wires) k j) + n) (length-made s (get_or wires i d).from (inner N inside (get_or wires i d).link j))

  pub inputs_stay : (wires : List Wire) (i : ℕ) (d : Wire) (k j : ℕ) → i < length wires → ((get_or wires i d).to ≡ k → ⊥)
      → length (inputs_at N inside s (take (i + 1) wires) k j) ≡ length (inputs_at N inside s (take i wires) k j)
  inputs_stay wires i d k j lt n =
      inputs_more wires i d k j lt
      ∙ ap (λ (b : Bool). length (inputs_at N inside s (take i wires) k j) + length (cond b (through s (get_or wires i d).from (inner N inside (get_or wires i d).link j)) [])) (ne_eqb (get_or wires i d).to k n)
      ∙ omega arith

pub one_or_other : (g : Gate) (n : ℕ) → one_if (nat_lt 0 (hits_of g n)) + one_if (now_of g n) ≤ 1
one_or_other Every zero = omega arith
one_or_other Every (suc n) = le_one (now_of Every (suc n)) (ne_eqb (suc n) 0 (λ e. omega arith)) (nat_lt 0 (suc n))
  where
    le_one : (b : Bool) → b ≡ false → (c : Bool) → one_if c + one_if b ≤ 1
    le_one true e c = absurd (true≢false e)
    le_one false e true = omega arith
    le_one false e false = omega arith
one_or_other Either n = omega arith
one_or_other Now n = omega arith
one_or_other Never n = omega arith

pub push_same : (y : ℕ) (xs : List ℕ) (b : Bool) → times y (cond b (xs ++ y ∷ []) xs) ≡ times y xs + one_if b
push_same y xs true = times_push_same y y xs refl
push_same y xs false = omega arith

pub push_other : (y z : ℕ) (xs : List ℕ) (b : Bool) → y ≢ z → times y (cond b (xs ++ z ∷ []) xs) ≡ times y xs
push_other y z xs true n = times_push_other y z xs n
push_other y z xs false n = refl

pub length_push_if : (z : ℕ) (xs : List ℕ) (b : Bool) → length (cond b (xs ++ z ∷ []) xs) ≡ length xs + one_if b
length_push_if z xs true = length-append xs (z ∷ [])
length_push_if z xs false = omega arith

module _ (inputs : ℕ → List ℕ) (gate : ℕ → Gate) where
  module _ (edges : ℕ → List ℕ) (Means : ℕ → Type 0) (closed : IsClosedFrom (start inputs gate) (given inputs gate) (free inputs gate) edges Means) where
    ones : (b : Bool) → 0 < one_if b → b ≡ true
    ones true h = refl
    ones false h = absurd (omega arith)

    ones_most : (b : Bool) → one_if b ≤ 1
    ones_most true = omega arith
    ones_most false = omega arith

    ones_has : (b : Bool) → b ≡ true → 0 < one_if b
    ones_has true e = omega arith
    ones_has false e = absurd (true≢false (sym e))

    -- before the run no hit was made
    pub begun_runs : (w : CounterLists) → IsBegun inputs gate (length w.need) w
        → IsRun (start inputs gate) (given inputs gate) (free inputs gate) edges Means 0 w
    begun_runs w h =
        let within : (y : ℕ) → 0 < times y w.queue → y < length w.need = λ y m. elim (cases_lt y (length w.need)) [
          | inl lt ↦ lt
          | inr ge ↦ absurd (omega (arith, m, h.queue_above y ge))
        ] in
        let is_given : (y : ℕ) → 0 < times y w.queue → at_once (gate y) (inputs y) ≡ true =
        λ y m. ones (at_once (gate y) (inputs y)) (omega (arith, m, h.queue_below y (within y m))) in
        record {
          counts = record {
            need = λ y lt. h.need_below y lt ∙ omega arith;
            once = λ y. elim (cases_lt y (length w.need)) [
              | inl lt ↦ omega (arith, h.queue_below y lt, ones_most (at_once (gate y) (inputs y)))
              | inr ge ↦ omega (arith, h.queue_above y ge)
            ];
            sound = λ y m. inl (is_given y m);
            inside = within;
            complete = λ y lt r. elim r [
              | inl g ↦ omega (arith, h.queue_below y lt, ones_has (at_once (gate y) (inputs y)) g)
              | inr n ↦ absurd (omega (arith, n.0, n.1))
            ];
          };
          within = omega arith;
          means = λ y m. closed.at_once y (is_given y m);
          order = λ i lt. (0, omega arith, omega arith, inl (is_given (get_or w.queue i 0) (times-get_or w.queue i 0 lt)));
        }

    pub run_fires : (v : CounterLists) → IsRun (start inputs gate) (given inputs gate) (free inputs gate) edges Means 0 v
        → ((x y : ℕ) → x < length v.need → 0 < times y (edges x) → y < length v.need)
        → (head : ℕ) (w : CounterLists) → Fires edges v head w
        → IsRun (start inputs gate) (given inputs gate) (free inputs gate) edges Means head w × (length w.need ≡ length v.need)
    run_fires v r inside zero w Fires.begins = (r, refl)
    run_fires v r inside head w (Fires.goes before u fires lt) =
        let so_far = run_fires v r inside before u fires in
        let x : ℕ = get_or u.queue before 0 in
        let here : get_or u.queue before 0 < length u.need = so_far.0.counts.inside (get_or u.queue before 0) (times-get_or u.queue before 0 lt) in (
          run_pops (start inputs gate) (given inputs gate) (free inputs gate) edges Means closed before u lt
              (λ y m. omega (arith, so_far.1, inside (get_or u.queue before 0) y (omega (arith, here, so_far.1)) m)) so_far.0,
          length-hits (edges (get_or u.queue before 0)) u ∙ so_far.1,
        )

    pub run_settles : (v w : CounterLists) → IsBegun inputs gate (length v.need) v
        → ((x y : ℕ) → x < length v.need → 0 < times y (edges x) → y < length v.need) → IsRunOut edges v w
        → IsSettled (start inputs gate) (given inputs gate) (free inputs gate) edges Means w × (length w.need ≡ length v.need)
    run_settles v w begun inside out =
        let r = run_fires v (begun_runs v begun) inside out.head w out.fires in
        (run_ends (start inputs gate) (given inputs gate) (free inputs gate) edges Means out.head w out.ends r.0, r.1)

-- a run keeps the size
pub fires_size : (edges : ℕ → List ℕ) (v : CounterLists) (head : ℕ) (w : CounterLists) → Fires edges v head w → length w.need ≡ length v.need
fires_size edges v zero w Fires.begins = refl
fires_size edges v head w (Fires.goes before u fires lt) = length-hits (edges (get_or u.queue before 0)) u ∙ fires_size edges v before u fires
