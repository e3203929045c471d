-- Nodes begin, one after another.
use Rattle.std.proofs.Common.{◌≡◌, ℕ, zero, suc, ◌+◌, ◌-◌, ◌*◌, ◌/◌, ◌%◌, ◌<◌, ◌≤◌, ◌^◌, Bool, true, false, cond, List, [], ◌∷◌, ◌++◌, length, get_or, set, take, inl, inr, ◌⊎◌, sym, subst, ap, refl, ◌∙◌, arith, length-append, length-set, true≢false}
use Rattle.std.specs.Prelude.{nat_lt, slice_get}
use Rattle.std.proofs.Common.{Some}
use Rattle.std.proofs.lemmas.Bool.{eqb-true}
use Rattle.std.proofs.Math.Nat.{add-mul}
use Rattle.std.proofs.lemmas.List.{length-take-le, get_or-take}
use Rattle.std.proofs.lemmas.Option.{slice_get_within, get_or_from_slice_get}
use Rattle.dl_base.specs.Paths.{IsDistinct}
use Rattle.dl_graph.specs.Numbers.{NetLists}
use Rattle.dl_fill.specs.declared.wire.Wire.{Wire}
use Rattle.dl_fill.specs.Wires.{inputs, inputs_at}
use Rattle.dl_fill.proofs.Links.{single}
use Rattle.dl_fill.proofs.Written.{times_contains}
use Rattle.std.proofs.lemmas.Bool.{cases_eq, cases_lt, lt-ltb, ltb-true}
use Rattle.std.proofs.lemmas.List.{get_or-set_same, get_or-set_other, append-nil, take_more}
use Rattle.std.proofs.lemmas.List.Concat.{flat_map-cons}
use Rattle.std.proofs.lemmas.List.Sums.{sum_by-set}
use Rattle.std.proofs.lemmas.Grind.{flat_map-append}
use Rattle.dl_graph.specs.Counting.{times}
use Rattle.dl_fill.specs.Counters.{CounterLists, waiting}
use Rattle.dl_fill.specs.declared.wire.Gate.{Gate}
use Rattle.dl_fill.specs.declared.wire.Gate.TheVariants.{Every, Either, Now, Never}
use Rattle.dl_fill.specs.Gates.{hits_of, now_of, awaited, at_once}
use Rattle.dl_fill.specs.Before.{is_inside}
use Rattle.dl_fill.specs.Prepared.{begun, one_if, IsBegun, IsClean, Begins, nodes_at, all_nodes, is_touched, touched_gate}
use Rattle.dl_fill.proofs.Times.{times-append, times_push_same, times_push_other, times_cons_same, times_cons_other}
use Rattle.dl_fill.proofs.Nodes.{place_of, kind_of, node_parts, node_inside}
use Rattle.dl_fill.proofs.Begun.{one_or_other, push_same, push_other, length_push_if}
use Rattle.dl_fill.proofs.Gating.{known}

module _ (inputs : ℕ → List ℕ) (gate : ℕ → Gate) where
  pub begins_none : (v : CounterLists) → Begins inputs gate [] v v
  begins_none v = record {
    need_in = λ y h. absurd (omega arith);
    need_out = λ y h. refl;
    queue_in = λ y h. absurd (omega arith);
    queue_out = λ y h. refl;
    few = omega arith;
    size = refl;
  }

  pub begins_one : (v w : CounterLists) (n : ℕ) (g : Gate) (i : ℕ) → n < length v.need → w ≡ begun v n (hits_of g i) (now_of g i) → g ≡ gate n → i ≡ length (inputs n)
      → Begins inputs gate (n ∷ []) v w
  begins_one v w n g i lt e f k =
      let same : w ≡ begun v n (hits_of (gate n) (length (inputs n))) (now_of (gate n) (length (inputs n))) =
      e ∙ ap (λ (x : Gate). begun v n (hits_of x i) (now_of x i)) f ∙ ap (λ (m : ℕ). begun v n (hits_of (gate n) m) (now_of (gate n) m)) k in
      subst (Begins inputs gate (n ∷ []) v) (sym same)
      (record {
        need_in = λ y h. elim (cases_eq y n) [
          | inl is ↦
              subst (λ (z : ℕ). get_or (set v.need n (hits_of (gate n) (length (inputs n)))) z 0 ≡ awaited (gate z) (inputs z)) (sym is)
              (get_or-set_same v.need n (hits_of (gate n) (length (inputs n))) 0 lt)
          | inr other ↦ absurd (omega (arith, h, times_cons_other y n [] other))
        ];
        need_out = λ y h. get_or-set_other v.need n y (hits_of (gate n) (length (inputs n))) 0 (λ is. omega (arith, h, times_cons_same y n [] is));
        queue_in = λ y h. elim (cases_eq y n) [
          | inl is ↦
              subst (λ (z : ℕ). times z (cond (now_of (gate n) (length (inputs n))) (v.queue ++ n ∷ []) v.queue) ≡ times z v.queue + one_if (at_once (gate z) (inputs z))) (sym is)
              (push_same n v.queue (now_of (gate n) (length (inputs n))))
          | inr other ↦ absurd (omega (arith, h, times_cons_other y n [] other))
        ];
        queue_out = λ y h. push_other y n v.queue (now_of (gate n) (length (inputs n))) (λ is. omega (arith, h, times_cons_same y n [] is));
        few =
            let s = sum_by-set (λ (m : ℕ). cond (nat_lt 0 m) 1 0) v.need n (hits_of (gate n) (length (inputs n))) 0 lt in
            omega (arith, s, one_or_other (gate n) (length (inputs n)), length_push_if n v.queue (now_of (gate n) (length (inputs n))));
        size = length-set _ _ _;
      })

  none_sum : (y : ℕ) (xs ys : List ℕ) → times y (xs ++ ys) ≡ 0 → (times y xs ≡ 0) × (times y ys ≡ 0)
  none_sum y xs ys h = (omega (arith, h, times-append y xs ys), omega (arith, h, times-append y xs ys))

  pub begins_join : (xs ys : List ℕ) (v u w : CounterLists) → Begins inputs gate xs v u → Begins inputs gate ys u w → ((y : ℕ) → 0 < times y ys → times y xs ≡ 0)
      → Begins inputs gate (xs ++ ys) v w
  begins_join xs ys v u w a b apart = record {
    need_in = λ y h. elim (cases_eq (times y ys) 0) [
      | inl none ↦ b.need_out y none ∙ a.need_in y (omega (arith, h, none, times-append y xs ys))
      | inr some ↦ b.need_in y (omega (arith, some))
    ];
    need_out = λ y h. let n = none_sum y xs ys h in b.need_out y n.1 ∙ a.need_out y n.0;
    queue_in = λ y h. elim (cases_eq (times y ys) 0) [
      | inl none ↦ b.queue_out y none ∙ a.queue_in y (omega (arith, h, none, times-append y xs ys))
      | inr some ↦ omega (arith, b.queue_in y (omega (arith, some)), a.queue_out y (apart y (omega (arith, some))))
    ];
    queue_out = λ y h. let n = none_sum y xs ys h in b.queue_out y n.1 ∙ a.queue_out y n.0;
    few = omega (arith, a.few, b.few, length-append xs ys);
    size = b.size ∙ a.size;
  }

-- a number does not stand before its place
not_earlier : (xs : List ℕ) (k x : ℕ) → IsDistinct xs → slice_get xs k ≡ Some x → 0 < times x (take k xs) → ⊥
not_earlier xs k x distinct at h =
    let m = times_contains x (take k xs) h in
    let lt : k < length xs = slice_get_within xs k x at in
    let before : m.0 < k = omega (arith, m.1, length-take-le k xs (omega (arith, lt))) in
    distinct m.0 k x before lt (sym (get_or-take k xs m.0 x before) ∙ m.2 ∙ sym (get_or_from_slice_get xs k x x at))

pub rows_fit : (k m n : ℕ) → k < m → k * n + n ≤ m * n
rows_fit k m zero lt = omega arith
rows_fit k m (suc n) lt = omega (arith, node_inside (suc n) m k n (omega arith) lt)

pub gate_at : (gate : ℕ → ℕ → Gate) (s i k : ℕ) → k < s → gate k i ≡ gate ((i * s + k) % s) ((i * s + k) / s)
gate_at gate s i k small = sym (ap (λ (v : ℕ). gate v ((i * s + k) / s)) (kind_of s i k small) ∙ ap (λ (v : ℕ). gate k v) (place_of s i k small))

pub inputs_of : (N : NetLists) (inside : ℕ → Bool) (s : ℕ) (wires : List Wire) (i k : ℕ) → k < s
    → length (inputs_at N inside s wires k i) ≡ length (inputs N inside s wires (i * s + k))
inputs_of N inside s wires i k small =
    sym (ap (λ (v : ℕ). length (inputs_at N inside s wires v ((i * s + k) / s))) (kind_of s i k small) ∙ ap (λ (v : ℕ). length (inputs_at N inside s wires k v)) (place_of s i k small))

now_zero : (g : Gate) (i : ℕ) → now_of g i ≡ true → (hits_of g i ≡ 0) × (g ≡ Never → ⊥)
now_zero Every i e = (eqb-true i 0 e, λ f. cc f)
now_zero Either i e = absurd (true≢false (sym e))
now_zero Now i e = (refl, λ f. cc f)
now_zero Never i e = absurd (true≢false (sym e))

pub give_room : (v w : CounterLists) (node h : ℕ) (g : Gate) (i : ℕ) → w ≡ record { need = set v.need node h; queue = v.queue } → h ≡ hits_of g i → now_of g i ≡ true
    → node < length v.need → (g ≡ Never) ⊎ (length v.queue + waiting v.need < length v.need) → length w.queue + waiting w.need < length w.need
give_room v w node h g i e f now lt room =
    let z = now_zero g i now in
    let none : h ≡ 0 = f ∙ z.0 in
    let s = sum_by-set (λ (m : ℕ). cond (nat_lt 0 m) 1 0) v.need node h 0 lt in
    let idle : one_if (nat_lt 0 h) ≡ 0 = ap (λ (m : ℕ). one_if (nat_lt 0 m)) none in
    elim room [
      | inl never ↦ absurd (z.1 never)
      | inr more ↦
          subst (λ (x : CounterLists). length x.queue + waiting x.need < length x.need) (sym e)
          (omega (arith, more, s, idle, length-set {A = ℕ}))
    ]

pub give_idle : (v w : CounterLists) (node h : ℕ) (g : Gate) (i : ℕ) → w ≡ record { need = set v.need node h; queue = v.queue } → h ≡ hits_of g i → now_of g i ≡ true
    → node < length v.need → get_or w.need node 0 ≡ 0
give_idle v w node h g i e f now lt =
    ap (λ (x : CounterLists). get_or x.need node 0) e ∙ get_or-set_same v.need node h 0 lt ∙ f ∙ (now_zero g i now).0

pub give_fresh : (v w : CounterLists) (node h : ℕ) (g : Gate) (i : ℕ) → w ≡ record { need = set v.need node h; queue = v.queue } → now_of g i ≡ true
    → (g ≡ Never) ⊎ (times node v.queue ≡ 0) → times node w.queue ≡ 0
give_fresh v w node h g i e now fresh =
    elim fresh [
      | inl never ↦ absurd ((now_zero g i now).1 never)
      | inr none ↦ ap (λ (x : CounterLists). times node x.queue) e ∙ none
    ]

pub hits_few : (g : Gate) (i : ℕ) → i < 2 ^ 31 → hits_of g i < 2 ^ 31
hits_few Every i h = h
hits_few Either i h = omega arith
hits_few Now i h = omega arith
hits_few Never i h = omega arith

-- the nodes of kinds at places
module _ (s from : ℕ) where
  pub at_place : (n i y : ℕ) → from + n ≤ s → 0 < times y (nodes_at s from n i) → (y / s ≡ i) × (from ≤ y % s) × (y % s < from + n)
  at_place zero i y small h = absurd (omega arith)
  at_place (suc n) i y small h = elim (cases_eq y (i * s + (from + n))) [
    | inl is ↦
        let lt : from + n < s = omega arith in
        let place : y / s ≡ i = ap (λ (z : ℕ). z / s) is ∙ place_of s i (from + n) lt in
        let kind : y % s ≡ from + n = ap (λ (z : ℕ). z % s) is ∙ kind_of s i (from + n) lt in
        (place, omega (arith, kind), omega (arith, kind))
    | inr other ↦
        let r = at_place n i y (omega arith) (omega (arith, h, times_push_other y (i * s + (from + n)) (nodes_at s from n i) other)) in
        (r.0, r.1, omega (arith, r.2))
  ]

  pub has_place : (n i y : ℕ) → 0 < s → y / s ≡ i → from ≤ y % s → y % s < from + n → 0 < times y (nodes_at s from n i)
  has_place zero i y pos e a b = absurd (omega arith)
  has_place (suc n) i y pos e a b = elim (cases_eq (y % s) (from + n)) [
    | inl is ↦
        let same : y ≡ i * s + (from + n) = sym (node_parts s y pos) ∙ ap (λ (z : ℕ). z * s + y % s) e ∙ ap (λ (z : ℕ). i * s + z) is in
        omega (arith, times_push_same y (i * s + (from + n)) (nodes_at s from n i) same)
    | inr other ↦
        omega (arith, has_place n i y pos e a (omega (arith, b, other)), times-append y (nodes_at s from n i) ((i * s + (from + n)) ∷ []))
  ]

  pub in_places : (n : ℕ) (xs : List ℕ) (y : ℕ) → from + n ≤ s → 0 < times y (all_nodes s from n xs) → (0 < times (y / s) xs) × (from ≤ y % s) × (y % s < from + n)
  in_places n [] y small h = absurd (omega arith)
  in_places n (x ∷ xs) y small h = elim (cases_eq (times y (nodes_at s from n x)) 0) [
    | inl none ↦
        let r = in_places n xs y small (omega (arith, h, none, ap (times y) (flat_map-cons (nodes_at s from n) x xs), times-append y (nodes_at s from n x) (all_nodes s from n xs))) in
        (omega (arith, r.0), r.1, r.2)
    | inr some ↦
        let r = at_place n x y small (omega (arith, some)) in
        (omega (arith, times_cons_same (y / s) x xs r.0), r.1, r.2)
  ]

  pub has_places : (n : ℕ) (xs : List ℕ) (y : ℕ) → 0 < s → 0 < times (y / s) xs → from ≤ y % s → y % s < from + n → 0 < times y (all_nodes s from n xs)
  has_places n [] y pos h a b = absurd (omega arith)
  has_places n (x ∷ xs) y pos h a b = elim (cases_eq (y / s) x) [
    | inl is ↦
        omega (arith, has_place n x y pos is a b, ap (times y) (flat_map-cons (nodes_at s from n) x xs), times-append y (nodes_at s from n x) (all_nodes s from n xs))
    | inr other ↦
        omega (
          arith,
          has_places n xs y pos (omega (arith, h, times_cons_other (y / s) x xs other)) a b,
          ap (times y) (flat_map-cons (nodes_at s from n) x xs),
          times-append y (nodes_at s from n x) (all_nodes s from n xs),
        )
  ]

  pub length-nodes : (n i : ℕ) → length (nodes_at s from n i) ≡ n
  length-nodes zero i = refl
  length-nodes (suc n) i = length-append (nodes_at s from n i) ((i * s + (from + n)) ∷ []) ∙ omega (arith, length-nodes n i)

  pub nodes_more : (n i : ℕ) → nodes_at s from (n + 1) i ≡ nodes_at s from n i ++ (i * s + (from + n)) ∷ []
  nodes_more n i = let e : n + 1 ≡ suc n = omega arith in ap (λ (m : ℕ). nodes_at s from m i) e

  pub places_more : (n : ℕ) (xs : List ℕ) (k x : ℕ) → k < length xs → get_or xs k x ≡ x
      → all_nodes s from n (take (k + 1) xs) ≡ all_nodes s from n (take k xs) ++ nodes_at s from n x
  places_more n xs k x lt e =
      ap (all_nodes s from n) (take_more xs k x lt)
      ∙ flat_map-append (nodes_at s from n) (take k xs) (get_or xs k x ∷ [])
      ∙ ap (λ (z : ℕ). all_nodes s from n (take k xs) ++ all_nodes s from n (z ∷ [])) e
      ∙ ap (λ (zs : List ℕ). all_nodes s from n (take k xs) ++ zs) (flat_map-cons (nodes_at s from n) x [] ∙ append-nil (nodes_at s from n x))

  pub nodes_has : (n i k : ℕ) → k < n → 0 < times (i * s + (from + k)) (nodes_at s from n i)
  nodes_has zero i k lt = absurd (omega arith)
  nodes_has (suc n) i k lt = elim (cases_eq k n) [
    | inl is ↦
        let at : i * s + (from + k) ≡ i * s + (from + n) = omega (arith, is) in
        omega (arith, times_push_same (i * s + (from + k)) (i * s + (from + n)) (nodes_at s from n i) at)
    | inr other ↦
        omega (
          arith,
          nodes_has n i k (omega (arith, other)),
          times-append (i * s + (from + k)) (nodes_at s from n i) ((i * s + (from + n)) ∷ []),
        )
  ]

  pub all_has : (n : ℕ) (xs : List ℕ) (k x y : ℕ) → k < length xs → get_or xs k x ≡ x → 0 < times y (nodes_at s from n x) → 0 < times y (all_nodes s from n xs)
  all_has n [] k x y lt e h = absurd (omega arith)
  all_has n (z ∷ xs) zero x y lt e h =
      omega (
        arith,
        h,
        ap (λ (v : ℕ). times y (nodes_at s from n v)) e,
        ap (times y) (flat_map-cons (nodes_at s from n) z xs),
        times-append y (nodes_at s from n z) (all_nodes s from n xs),
      )
  all_has n (z ∷ xs) (suc k) x y lt e h =
      omega (
        arith,
        all_has n xs k x y (omega arith) e h,
        ap (times y) (flat_map-cons (nodes_at s from n) z xs),
        times-append y (nodes_at s from n z) (all_nodes s from n xs),
      )

  pub node_fresh : (k i y : ℕ) → from + k < s → 0 < times y ((i * s + (from + k)) ∷ []) → times y (nodes_at s from k i) ≡ 0
  node_fresh k i y small h = elim (cases_eq (times y (nodes_at s from k i)) 0) [
    | inl none ↦ none
    | inr some ↦
        let is : y ≡ i * s + (from + k) = single y (i * s + (from + k)) h in
        let kind : y % s ≡ from + k = ap (λ (z : ℕ). z % s) is ∙ kind_of s i (from + k) small in
        absurd (omega (arith, kind, (at_place k i y (omega arith) (omega (arith, some))).2))
  ]

  pub length-places : (n : ℕ) (xs : List ℕ) → length (all_nodes s from n xs) ≡ length xs * n
  length-places n [] = omega arith
  length-places n (x ∷ xs) =
      ap length (flat_map-cons (nodes_at s from n) x xs)
      ∙ omega (arith, length-append (nodes_at s from n x) (all_nodes s from n xs), length-nodes n x, length-places n xs, add-mul 1 (length xs) n)

  pub length-all : (n : ℕ) (xs : List ℕ) (k : ℕ) → k ≤ length xs → length (all_nodes s from n (take k xs)) ≡ k * n
  length-all n xs k le = length-places n (take k xs) ∙ ap (λ (m : ℕ). m * n) (length-take-le k xs le)

  pub place_fresh : (n : ℕ) (xs : List ℕ) (k x : ℕ) → from + n ≤ s → IsDistinct xs → slice_get xs k ≡ Some x → (y : ℕ) → 0 < times y (nodes_at s from n x)
      → times y (all_nodes s from n (take k xs)) ≡ 0
  place_fresh n xs k x small distinct at y h = elim (cases_eq (times y (all_nodes s from n (take k xs))) 0) [
    | inl none ↦ none
    | inr some ↦
        let earlier : 0 < times (y / s) (take k xs) = (in_places n (take k xs) y small (omega (arith, some))).0 in
        let here : y / s ≡ x = (at_place n x y small h).0 in
        absurd (not_earlier xs k x distinct at (subst (λ (z : ℕ). 0 < times z (take k xs)) here earlier))
  ]

-- what begins at the members and at the rules is what is touched
module _ (inputs : ℕ → List ℕ) (gate : ℕ → ℕ → Gate) (s literals : ℕ) (small : literals < s) (members rules : List ℕ) where
  abbrev lits : List ℕ
  lits = all_nodes s 0 literals members

  abbrev rest : List ℕ
  rest = all_nodes s literals (s - literals) rules

  of_literal : (y : ℕ) → 0 < times y lits → (0 < times (y / s) members) × (y % s < literals)
  of_literal y h = let r = in_places s 0 literals members y (omega arith) h in (r.0, omega (arith, r.2))

  of_rule : (y : ℕ) → 0 < times y rest → (0 < times (y / s) rules) × (literals ≤ y % s)
  of_rule y h = let r = in_places s literals (s - literals) rules y (omega arith) h in (r.0, r.1)

  kind_below : (y : ℕ) → y % s < s
  kind_below y = omega arith

  pub lits_apart : (y : ℕ) → 0 < times y rest → times y lits ≡ 0
  lits_apart y h = elim (cases_eq (times y lits) 0) [
    | inl none ↦ none
    | inr some ↦ absurd (omega (arith, (of_rule y h).1, (of_literal y (omega (arith, some))).1))
  ]

  pub touched_cases : (y : ℕ) → ((is_touched s literals members rules y ≡ true) × (0 < times y (lits ++ rest)))
      ⊎ ((is_touched s literals members rules y ≡ false) × (times y (lits ++ rest) ≡ 0))
  touched_cases y = elim (cases_lt (y % s) literals) [
    | inl lt ↦ elim (cases_eq (times (y / s) members) 0) [
      | inl none ↦ inr (
        ap (λ (b : Bool). cond b (is_inside members (y / s)) (is_inside rules (y / s))) (lt-ltb (y % s) literals lt) ∙ ap (λ (n : ℕ). nat_lt 0 n) none,
        elim (cases_eq (times y (lits ++ rest)) 0) [
          | inl e ↦ e
          | inr some ↦ elim (cases_eq (times y lits) 0) [
            | inl e ↦ absurd (omega (arith, (of_rule y (omega (arith, some, e, times-append y lits rest))).1, lt))
            | inr e ↦ absurd (omega (arith, none, (of_literal y (omega (arith, e))).0))
          ]
        ],
      )
      | inr some ↦ inl (
        ap (λ (b : Bool). cond b (is_inside members (y / s)) (is_inside rules (y / s))) (lt-ltb (y % s) literals lt) ∙ lt-ltb 0 (times (y / s) members) (omega (arith, some)),
        omega (arith, has_places s 0 literals members y (omega arith) (omega (arith, some)) (omega arith) (omega (arith, lt)), times-append y lits rest),
      )
    ]
    | inr ge ↦
        let not_literal : nat_lt (y % s) literals ≡ false = elim (known (nat_lt (y % s) literals)) [
          | inl e ↦ absurd (omega (arith, ge, ltb-true (y % s) literals e))
          | inr e ↦ e
        ] in
        elim (cases_eq (times (y / s) rules) 0) [
          | inl none ↦ inr (
            ap (λ (b : Bool). cond b (is_inside members (y / s)) (is_inside rules (y / s))) not_literal ∙ ap (λ (n : ℕ). nat_lt 0 n) none,
            elim (cases_eq (times y (lits ++ rest)) 0) [
              | inl e ↦ e
              | inr some ↦ elim (cases_eq (times y lits) 0) [
                | inl e ↦ absurd (omega (arith, none, (of_rule y (omega (arith, some, e, times-append y lits rest))).0))
                | inr e ↦ absurd (omega (arith, ge, (of_literal y (omega (arith, e))).1))
              ]
            ],
          )
          | inr some ↦ inl (
            ap (λ (b : Bool). cond b (is_inside members (y / s)) (is_inside rules (y / s))) not_literal ∙ lt-ltb 0 (times (y / s) rules) (omega (arith, some)),
            omega (arith, has_places s literals (s - literals) rules y (omega arith) (omega (arith, some)) ge (omega (arith, kind_below y)), times-append y lits rest),
          )
        ]
  ]

  zero_past : (xs : List ℕ) (y : ℕ) → length xs ≤ y → get_or xs y 0 ≡ 0
  zero_past [] y h = refl
  zero_past (x ∷ xs) zero h = absurd (omega arith)
  zero_past (x ∷ xs) (suc y) h = zero_past xs y (omega arith)

  -- from clean counters, the nodes that are touched begin, and no others
  pub touched_begun : (v w : CounterLists) → IsClean v → Begins inputs (λ y. gate (y % s) (y / s)) (lits ++ rest) v w
      → ((y : ℕ) → 0 < times y (lits ++ rest) → y < length w.need) → length (lits ++ rest) ≤ length w.need → waiting v.need ≡ 0
      → IsBegun inputs (touched_gate s literals members rules gate) (length w.need) w
  touched_begun v w clean b within fits idle = record {
    need_below = λ y lt. elim (touched_cases y) [
      | inl t ↦
          subst (λ (c : Bool). get_or w.need y 0 ≡ awaited (cond c (gate (y % s) (y / s)) Never) (inputs y)) (sym t.0) (b.need_in y t.1)
      | inr t ↦
          subst (λ (c : Bool). get_or w.need y 0 ≡ awaited (cond c (gate (y % s) (y / s)) Never) (inputs y)) (sym t.0) (b.need_out y t.1 ∙ clean.need y)
    ];
    need_above = λ y ge. zero_past w.need y ge;
    queue_below = λ y lt. elim (touched_cases y) [
      | inl t ↦
          subst (λ (c : Bool). times y w.queue ≡ one_if (at_once (cond c (gate (y % s) (y / s)) Never) (inputs y))) (sym t.0)
          (b.queue_in y t.1 ∙ ap (λ (q : List ℕ). times y q + one_if (at_once (gate (y % s) (y / s)) (inputs y))) clean.queue ∙ omega arith)
      | inr t ↦
          subst (λ (c : Bool). times y w.queue ≡ one_if (at_once (cond c (gate (y % s) (y / s)) Never) (inputs y))) (sym t.0)
          (b.queue_out y t.1 ∙ ap (times y) clean.queue)
    ];
    queue_above = λ y ge. elim (cases_eq (times y (lits ++ rest)) 0) [
      | inl none ↦ b.queue_out y none ∙ ap (times y) clean.queue
      | inr some ↦ absurd (omega (arith, ge, within y (omega (arith, some))))
    ];
    few = omega (arith, b.few, fits, idle, ap length clean.queue);
  }
