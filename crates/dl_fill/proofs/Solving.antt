-- A whole run: room for what the region touches, and what is left of the counters.
use Rattle.std.proofs.Common.{◌≡◌, ℕ, zero, suc, ◌+◌, ◌-◌, ◌*◌, ◌/◌, ◌%◌, ◌<◌, ◌≤◌, ◌==◌, Bool, cond, List, [], ◌∷◌, ◌++◌, length, replicate, get_or, set, inl, inr, sym, subst, ap, refl, ◌∙◌, arith, length-append}
use Rattle.std.specs.Prelude.{nat_lt, All, Contains}
use Rattle.std.specs.List.{fold}
use Rattle.std.proofs.lemmas.Bool.{cases_eq, cases_lt}
use Rattle.std.proofs.lemmas.Bool.Decides.{eqb_tells}
use Rattle.std.proofs.lemmas.List.{get_or-set_other}
use Rattle.std.proofs.lemmas.List.Sums.{sum_by-cons}
use Rattle.std.proofs.lemmas.List.Elements.{All-contains}
use Rattle.std.proofs.Math.Nat.{mul-le-mul_right, mul-add}
use Rattle.dl_base.proofs.Distinct.{no_longer}
use Rattle.dl_graph.specs.Counting.{times}
use Rattle.dl_graph.specs.Region.{Numbers, IsRegion}
use Rattle.dl_graph.specs.Numbers.{NetLists}
use Rattle.dl_fill.specs.Counters.{CounterLists, hit, waiting}
use Rattle.dl_fill.specs.declared.wire.Wire.{Wire}
use Rattle.dl_fill.specs.declared.wire.Gate.{Gate}
use Rattle.dl_fill.specs.declared.wire.Gate.TheVariants.{Never}
use Rattle.dl_fill.specs.Wires.{edges, inputs}
use Rattle.dl_fill.specs.Before.{Before}
use Rattle.dl_fill.specs.Gates.{awaited}
use Rattle.dl_fill.specs.Prepared.{one_if, IsBegun, IsClean, Begins, all_nodes, touched_gate}
use Rattle.dl_fill.specs.Runs.{Fires, HasRun}
use Rattle.dl_fill.proofs.Times.{times-append}
use Rattle.dl_fill.proofs.Nodes.{node_parts, node_inside}
use Rattle.dl_fill.proofs.Written.{times_contains}
use Rattle.dl_fill.proofs.Starting.{begins_join, length-places, rows_fit, in_places, lits_apart, touched_cases, touched_begun}

-- distinct numbers below a bound are no more than the bound
abbrev under : ℕ → List ℕ
under zero = []
under (suc n) = n ∷ under n

length-under : (n : ℕ) → length (under n) ≡ n
length-under zero = refl
length-under (suc n) = ap suc (length-under n)

has_under : (n x : ℕ) → x < n → Contains (under n) x
has_under zero x lt = absurd (omega arith)
has_under (suc n) x lt = elim (cases_eq x n) [
  | inl is ↦ (0, omega arith, sym is)
  | inr other ↦ let m = has_under n x (omega arith) in (suc m.0, omega (arith, m.1), m.2)
]

pub region_few : (r : Numbers) → IsRegion r → length r.members ≤ r.bound
region_few r h =
    omega (
      arith,
      no_longer r.members (under r.bound) h.distinct (λ k d lt. has_under r.bound (get_or r.members k d) (h.below k d lt)),
      length-under r.bound,
    )

pub idle_waits : (need : List ℕ) → ((y : ℕ) → get_or need y 0 ≡ 0) → waiting need ≡ 0
idle_waits [] h = refl
idle_waits (x ∷ xs) h =
    let z : one_if (nat_lt 0 x) ≡ 0 = ap (λ (n : ℕ). one_if (nat_lt 0 n)) (h 0) in
    sum_by-cons (λ (m : ℕ). cond (nat_lt 0 m) 1 0) x xs ∙ omega (arith, z, idle_waits xs (λ y. h (suc y)))

pub area_fits : (a b p l s : ℕ) → a ≤ p → b ≤ p → l < s → a * l + b * (s - l) ≤ p * s
area_fits a b p l s x y small =
    let whole : l + (s - l) ≡ s = omega arith in
    let e : p * s ≡ p * l + p * (s - l) = ap (λ (n : ℕ). p * n) (sym whole) ∙ mul-add p l (s - l) in
    let f : a * l ≤ p * l = mul-le-mul_right l x in
    let g : b * (s - l) ≤ p * (s - l) = mul-le-mul_right (s - l) y in
    omega (arith, e, f, g)

pub places_fit : (xs : List ℕ) (p s need : ℕ) → All (λ i. i < p) xs → need ≡ p * s → All (λ i. i * s + s ≤ need) xs
places_fit xs p s need h size k d lt = subst (λ (n : ℕ). get_or xs k d * s + s ≤ n) (sym size) (rows_fit (get_or xs k d) p s (h k d lt))

module _ (inputs : ℕ → List ℕ) (gate : ℕ → ℕ → Gate) (s literals p : ℕ) (small : literals < s) (members rules : List ℕ)
    (members_in : All (λ i. i < p) members) (rules_in : All (λ i. i < p) rules) (members_few : length members ≤ p) (rules_few : length rules ≤ p)
    (v u w : CounterLists) (size : length v.need ≡ p * s) (clean : IsClean v)
    (first : Begins inputs (λ y. gate (y % s) (y / s)) (all_nodes s 0 literals members) v u)
    (second : Begins inputs (λ y. gate (y % s) (y / s)) (all_nodes s literals (s - literals) rules) u w) where
  abbrev both : List ℕ
  both = all_nodes s 0 literals members ++ all_nodes s literals (s - literals) rules

  joined : Begins inputs (λ y. gate (y % s) (y / s)) both v w
  joined =
      begins_join inputs (λ y. gate (y % s) (y / s)) (all_nodes s 0 literals members) (all_nodes s literals (s - literals) rules) v u w first second
      (lits_apart inputs gate s literals small members rules)

  place_in : (xs : List ℕ) → All (λ i. i < p) xs → (y : ℕ) → 0 < times (y / s) xs → y < p * s
  place_in xs h y m =
      let lt : y / s < p = All-contains (λ i. i < p) xs (y / s) h (times_contains (y / s) xs m) in
      subst (λ (n : ℕ). n < p * s) (node_parts s y (omega arith)) (node_inside s p (y / s) (y % s) (omega arith) lt)

  within : (y : ℕ) → 0 < times y both → y < length w.need
  within y h =
      let e : length w.need ≡ p * s = joined.size ∙ size in
      subst (λ (n : ℕ). y < n) (sym e)
      (elim (cases_eq (times y (all_nodes s 0 literals members)) 0) [
        | inl none ↦
            place_in rules rules_in y
            (in_places s literals (s - literals) rules y (omega arith)
            (omega (arith, h, none, times-append y (all_nodes s 0 literals members) (all_nodes s literals (s - literals) rules)))).0
        | inr some ↦ place_in members members_in y (in_places s 0 literals members y (omega arith) (omega (arith, some))).0
      ])

  fits : length both ≤ length w.need
  fits =
      let e : length w.need ≡ p * s = joined.size ∙ size in
      omega (
        arith,
        e,
        length-append (all_nodes s 0 literals members) (all_nodes s literals (s - literals) rules),
        length-places s 0 literals members,
        length-places s literals (s - literals) rules,
        area_fits (length members) (length rules) p literals s members_few rules_few small,
      )

  pub all_begun : IsBegun inputs (touched_gate s literals members rules gate) (length w.need) w
  all_begun = touched_begun inputs gate s literals small members rules v w clean joined within fits (idle_waits v.need clean.need)

-- a node that waits for nothing goes on so
hit_idle : (w : CounterLists) (z y : ℕ) → get_or w.need y 0 ≡ 0 → get_or (hit w z).need y 0 ≡ 0
hit_idle w z y h =
    let next : Bool → CounterLists =
    λ a. cond a w (record { need = set w.need z (get_or w.need z 0 - 1); queue = cond (get_or w.need z 0 == 1) (w.queue ++ z ∷ []) w.queue }) in
    elim (eqb_tells (get_or w.need z 0) 0) [
      | inl none ↦ subst (λ (a : Bool). get_or (next a).need y 0 ≡ 0) (sym none.0) h
      | inr some ↦ subst (λ (a : Bool). get_or (next a).need y 0 ≡ 0) (sym some.0)
          (elim (cases_eq y z) [
            | inl is ↦ absurd (some.1 (ap (λ (n : ℕ). get_or w.need n 0) (sym is) ∙ h))
            | inr other ↦ get_or-set_other w.need z y (get_or w.need z 0 - 1) 0 other ∙ h
          ])
    ]

hits_idle : (ys : List ℕ) (w : CounterLists) (y : ℕ) → get_or w.need y 0 ≡ 0 → get_or (fold hit w ys).need y 0 ≡ 0
hits_idle [] w y h = h
hits_idle (z ∷ zs) w y h = hits_idle zs (hit w z) y (hit_idle w z y h)

fires_idle : (edges : ℕ → List ℕ) (v : CounterLists) (head : ℕ) (w : CounterLists) → Fires edges v head w → (y : ℕ) → get_or v.need y 0 ≡ 0 → get_or w.need y 0 ≡ 0
fires_idle edges v zero w Fires.begins y h = h
fires_idle edges v head w (Fires.goes before u fires lt) y h = hits_idle (edges (get_or u.queue before 0)) u y (fires_idle edges v before u fires y h)

-- after a run nothing waits that is not touched
pub run_idle : (N : NetLists) (b : Before) (members : List ℕ) (s literals : ℕ) (small : literals < s) (wires : List Wire) (gate : ℕ → ℕ → Gate) (rules : List ℕ) (w : CounterLists)
    → HasRun N b members s literals wires gate rules w
    → (y : ℕ) → times y (all_nodes s 0 literals members) ≡ 0 → times y (all_nodes s literals (s - literals) rules) ≡ 0 → get_or w.need y 0 ≡ 0
run_idle N b members s literals small wires gate rules w run y none none' =
    fires_idle (edges N s wires) run.middle run.out.head w run.out.fires y
    (elim (cases_lt y (length run.middle.need)) [
      | inr past ↦ run.begun.need_above y past
      | inl lt ↦ elim (touched_cases (inputs N b.inside s wires) gate s literals small members rules y) [
        | inl t ↦ absurd (omega (arith, t.1, none, none', times-append y (all_nodes s 0 literals members) (all_nodes s literals (s - literals) rules)))
        | inr t ↦
            run.begun.need_below y lt
            ∙ ap (λ (c : Bool). awaited (cond c (gate (y % s) (y / s)) Never) (inputs N b.inside s wires y)) t.0
      ]
    ])

abbrev nothing : ℕ
nothing = 0

pub zeros : (n y : ℕ) → get_or (replicate n nothing) y 0 ≡ nothing
zeros zero y = refl
zeros (suc n) zero = refl
zeros (suc n) (suc y) = zeros n y

-- counters that were made anew are clean
pub fresh_clean : (w : CounterLists) (n : ℕ) → w.need ≡ replicate n 0 → w.queue ≡ [] → IsClean w
fresh_clean w n e q = record { need = λ y. ap (λ (xs : List ℕ). get_or xs y 0) e ∙ zeros n y; queue = q }
