-- What the counters and the queue say after a list of hits.
use Rattle.std.proofs.Common.{◌≡◌, ◌≢◌, ℕ, ◌+◌, ◌-◌, ◌<◌, ◌≤◌, ◌==◌, cond, Bool, true, false, List, [], ◌∷◌, ◌++◌, length, get_or, set, take, length-append, inl, inr, ◌⊎◌, sym, subst, ap, refl, ◌∙◌, arith, append_assoc, length-set}
use Rattle.std.specs.List.{flat_map, fold}
use Rattle.std.proofs.lemmas.Bool.{cases_eq, cases_lt}
use Rattle.std.proofs.lemmas.Bool.Decides.{eqb_tells}
use Rattle.std.proofs.lemmas.List.{append-nil, get_or-set_other, get_or-set_same, get_or_append_left, take_more, take-append-le, take_all}
use Rattle.std.proofs.lemmas.List.Concat.{flat_map-cons}
use Rattle.std.proofs.lemmas.Grind.{flat_map-append}
use Rattle.dl_graph.specs.Counting.{times}
use Rattle.dl_fill.specs.Counters.{CounterLists, hit}
use Rattle.dl_fill.proofs.Times.{times-append, times_push_same, times_push_other, times_cons_same, times-take, times-get_or}

module _ (start : ℕ → ℕ) (given : ℕ → Bool) where
  -- y is given at once, or waited for hits, which have come
  abbrev pub IsReached : List ℕ → ℕ → Type 0
  IsReached hits y = (given y ≡ true) ⊎ ((0 < start y) × (start y ≤ times y hits))

  pub record Counts (hits : List ℕ) (w : CounterLists) : Type 0 where
    pub need : (y : ℕ) → y < length w.need → get_or w.need y 0 ≡ start y - times y hits
    pub once : (y : ℕ) → times y w.queue ≤ 1
    pub sound : (y : ℕ) → 0 < times y w.queue → IsReached hits y
    pub inside : (y : ℕ) → 0 < times y w.queue → y < length w.need
    pub complete : (y : ℕ) → y < length w.need → IsReached hits y → 0 < times y w.queue

  reached_more : (hits : List ℕ) (x y : ℕ) → IsReached hits y → IsReached (hits ++ x ∷ []) y
  reached_more hits x y (inl g) = inl g
  reached_more hits x y (inr h) = inr (h.0, omega (arith, h.1, times-append y hits (x ∷ [])))

  module _ (free : (y : ℕ) → given y ≡ true → start y ≡ 0) (hits : List ℕ) (w : CounterLists) (z : ℕ) (inside : z < length w.need) (c : Counts hits w) where
    left : ℕ
    left = get_or w.need z 0

    reached_less : (y : ℕ) → y ≢ z → IsReached (hits ++ z ∷ []) y → IsReached hits y
    reached_less y n (inl g) = inl g
    reached_less y n (inr h) = inr (h.0, omega (arith, h.1, times_push_other y z hits n))

    idle : get_or w.need z 0 ≡ 0 → Counts (hits ++ z ∷ []) w
    idle e = record {
      need = λ y lt. elim (cases_eq y z) [
        | inl same ↦
            let k : get_or w.need y 0 ≡ 0 = subst (λ (v : ℕ). get_or w.need v 0 ≡ 0) (sym same) e in
            omega (arith, k, c.need y lt, times_push_same y z hits same)
        | inr other ↦ omega (arith, c.need y lt, times_push_other y z hits other)
      ];
      once = c.once;
      sound = λ y m. reached_more hits z y (c.sound y m);
      inside = c.inside;
      complete = λ y lt r. elim (cases_eq y z) [
        | inl same ↦
            let k : get_or w.need y 0 ≡ 0 = subst (λ (v : ℕ). get_or w.need v 0 ≡ 0) (sym same) e in
            elim r [
              | inl g ↦ c.complete y lt (inl g)
              | inr h ↦ c.complete y lt (inr (h.0, omega (arith, k, c.need y lt)))
            ]
        | inr other ↦ c.complete y lt (reached_less y other r)
      ];
    }

    lowered : (queue : List ℕ) → 0 < get_or w.need z 0
        → (y : ℕ) → y < length (set w.need z (get_or w.need z 0 - 1)) → get_or (set w.need z (get_or w.need z 0 - 1)) y 0 ≡ start y - times y (hits ++ z ∷ [])
    lowered queue pos y lt = elim (cases_eq y z) [
      | inl same ↦
          let lt' : z < length w.need = inside in
          subst (λ (v : ℕ). get_or (set w.need z (get_or w.need z 0 - 1)) v 0 ≡ start v - times v (hits ++ z ∷ [])) (sym same)
          (get_or-set_same w.need z (get_or w.need z 0 - 1) 0 inside ∙ omega (arith, c.need z inside, times_push_same z z hits refl))
      | inr other ↦
          get_or-set_other w.need z y (get_or w.need z 0 - 1) 0 other
          ∙ omega (arith, c.need y (omega (arith, length-set {A = ℕ})), times_push_other y z hits other)
    ]

    less : 1 < get_or w.need z 0 → Counts (hits ++ z ∷ []) (record { need = set w.need z (get_or w.need z 0 - 1); queue = w.queue })
    less many = record {
      need = lowered w.queue (omega arith);
      once = c.once;
      sound = λ y m. reached_more hits z y (c.sound y m);
      inside = λ y m. omega (arith, length-set {A = ℕ}, c.inside y m);
      complete = λ y lt r.
          let lt' : y < length w.need = omega (arith, length-set {A = ℕ}) in
          elim (cases_eq y z) [
            | inl same ↦ elim r [
              | inl g ↦ c.complete y lt' (inl g)
              | inr h ↦
                  let k : 1 < get_or w.need y 0 = subst (λ (v : ℕ). 1 < get_or w.need v 0) (sym same) many in
                  absurd (omega (arith, k, h.1, c.need y lt', times_push_same y z hits same))
            ]
            | inr other ↦ c.complete y lt' (reached_less y other r)
          ];
    }

    last : get_or w.need z 0 ≡ 1 → Counts (hits ++ z ∷ []) (record { need = set w.need z (get_or w.need z 0 - 1); queue = w.queue ++ z ∷ [] })
    last e =
        let fresh : times z w.queue ≡ 0 = elim (cases_eq (times z w.queue) 0) [
          | inl none ↦ none
          | inr some ↦ elim (c.sound z (omega arith)) [
            | inl g ↦ absurd (omega (arith, free z g, c.need z inside, e))
            | inr h ↦ absurd (omega (arith, h.1, c.need z inside, e))
          ]
        ] in
        record {
          need = lowered w.queue (omega arith);
          once = λ y. elim (cases_eq y z) [
            | inl same ↦
                let k : times y w.queue ≡ 0 = subst (λ (v : ℕ). times v w.queue ≡ 0) (sym same) fresh in
                omega (arith, k, times_push_same y z w.queue same)
            | inr other ↦ omega (arith, c.once y, times_push_other y z w.queue other)
          ];
          sound = λ y m. elim (cases_eq y z) [
            | inl same ↦
                subst (λ (v : ℕ). IsReached (hits ++ z ∷ []) v) (sym same)
                (inr (omega (arith, c.need z inside, e), omega (arith, c.need z inside, e, times_push_same z z hits refl)))
            | inr other ↦ reached_more hits z y (c.sound y (omega (arith, m, times_push_other y z w.queue other)))
          ];
          inside = λ y m. elim (cases_eq y z) [
            | inl same ↦ omega (arith, length-set {A = ℕ}, same, inside)
            | inr other ↦ omega (arith, length-set {A = ℕ}, c.inside y (omega (arith, m, times_push_other y z w.queue other)))
          ];
          complete = λ y lt r. elim (cases_eq y z) [
            | inl same ↦ omega (arith, times_push_same y z w.queue same)
            | inr other ↦
                omega (arith, times_push_other y z w.queue other, c.complete y (omega (arith, length-set {A = ℕ})) (reached_less y other r))
          ];
        }

    pub counts_hit : Counts (hits ++ z ∷ []) (hit w z)
    counts_hit =
        let n = get_or w.need z 0 in
        let next : Bool → Bool → CounterLists =
        λ a b. cond a w (record { need = set w.need z (get_or w.need z 0 - 1); queue = cond b (w.queue ++ z ∷ []) w.queue }) in
        elim (eqb_tells (get_or w.need z 0) 0) [
          | inl zero ↦ subst (λ (a : Bool). Counts (hits ++ z ∷ []) (next a (get_or w.need z 0 == 1))) (sym zero.0) (idle zero.1)
          | inr some ↦ subst (λ (a : Bool). Counts (hits ++ z ∷ []) (next a (get_or w.need z 0 == 1))) (sym some.0)
              (elim (eqb_tells (get_or w.need z 0) 1) [
                | inl one ↦ subst (λ (b : Bool). Counts (hits ++ z ∷ []) (next false b)) (sym one.0) (last one.1)
                | inr more ↦ subst (λ (b : Bool). Counts (hits ++ z ∷ []) (next false b)) (sym more.0) (less (omega (arith, some.1, more.1)))
              ])
        ]

-- a list of hits keeps the size, and only adds to the queue
pub length-hit : (w : CounterLists) (z : ℕ) → length (hit w z).need ≡ length w.need
length-hit w z =
    let next : Bool → CounterLists =
    λ a. cond a w (record { need = set w.need z (get_or w.need z 0 - 1); queue = cond (get_or w.need z 0 == 1) (w.queue ++ z ∷ []) w.queue }) in
    elim (eqb_tells (get_or w.need z 0) 0) [
      | inl zero ↦ subst (λ (a : Bool). length (next a).need ≡ length w.need) (sym zero.0) refl
      | inr some ↦ subst (λ (a : Bool). length (next a).need ≡ length w.need) (sym some.0) (simp length-set)
    ]

pub length-hits : (ys : List ℕ) (w : CounterLists) → length (fold hit w ys).need ≡ length w.need
length-hits [] w = refl
length-hits (y ∷ ys) w = length-hits ys (hit w y) ∙ length-hit w y

-- what one hit adds to the queue
pub queue-hit : (w : CounterLists) (z : ℕ) → (more : List ℕ) × ((hit w z).queue ≡ w.queue ++ more)
queue-hit w z =
    let next : Bool → Bool → CounterLists =
    λ a b. cond a w (record { need = set w.need z (get_or w.need z 0 - 1); queue = cond b (w.queue ++ z ∷ []) w.queue }) in
    elim (eqb_tells (get_or w.need z 0) 0) [
      | inl zero ↦
          subst (λ (a : Bool). (more : List ℕ) × ((next a (get_or w.need z 0 == 1)).queue ≡ w.queue ++ more)) (sym zero.0)
          ([], sym (append-nil w.queue))
      | inr some ↦
          subst (λ (a : Bool). (more : List ℕ) × ((next a (get_or w.need z 0 == 1)).queue ≡ w.queue ++ more)) (sym some.0)
          (elim (eqb_tells (get_or w.need z 0) 1) [
            | inl one ↦ subst (λ (b : Bool). (more : List ℕ) × ((next false b).queue ≡ w.queue ++ more)) (sym one.0) (z ∷ [], refl)
            | inr other ↦ subst (λ (b : Bool). (more : List ℕ) × ((next false b).queue ≡ w.queue ++ more)) (sym other.0) ([], sym (append-nil w.queue))
          ])
    ]

pub queue-hits : (ys : List ℕ) (w : CounterLists) → (more : List ℕ) × ((fold hit w ys).queue ≡ w.queue ++ more)
queue-hits [] w = ([], sym (append-nil w.queue))
queue-hits (y ∷ ys) w =
    let first = queue-hit w y in
    let rest = queue-hits ys (hit w y) in
    (first.0 ++ rest.0, rest.1 ∙ ap (λ (q : List ℕ). q ++ rest.0) first.1 ∙ append_assoc w.queue first.0 rest.0)

module _ (start : ℕ → ℕ) (given : ℕ → Bool) (free : (y : ℕ) → given y ≡ true → start y ≡ 0) where
  pub counts_hits : (ys hits : List ℕ) (w : CounterLists) → ((y : ℕ) → 0 < times y ys → y < length w.need) → Counts start given hits w
      → Counts start given (hits ++ ys) (fold hit w ys)
  counts_hits [] hits w inside c = subst (λ (h : List ℕ). Counts start given h w) (sym (append-nil hits)) c
  counts_hits (z ∷ zs) hits w inside c =
      let here : z < length w.need = inside z (omega (arith, times_cons_same z z zs refl)) in
      let c' = counts_hit start given free hits w z here c in
      subst (λ (h : List ℕ). Counts start given h (fold hit (hit w z) zs)) (append_assoc hits (z ∷ []) zs)
      (counts_hits zs (hits ++ z ∷ []) (hit w z)
      (λ y m. omega (arith, length-hit w z, inside y (omega arith))) c')

  -- nodes with a meaning, which what reaches them gives
  module _ (edges : ℕ → List ℕ) (Means : ℕ → Type 0) where
    pub record IsClosedFrom : Type 0 where
      pub at_once : (y : ℕ) → given y ≡ true → Means y
      pub by_hits : (xs : List ℕ) → ((x : ℕ) → times x xs ≤ 1) → ((x : ℕ) → 0 < times x xs → Means x) → (y : ℕ) → 0 < start y → start y ≤ times y (flat_map edges xs) → Means y

    -- the first `head` nodes of the queue have passed on their hits
    pub record IsRun (head : ℕ) (w : CounterLists) : Type 0 where
      pub counts : Counts start given (flat_map edges (take head w.queue)) w
      pub within : head ≤ length w.queue
      pub means : (y : ℕ) → 0 < times y w.queue → Means y
      pub order : (i : ℕ) → i < length w.queue
          → (m : ℕ) × (m ≤ i) × (m ≤ head) × IsReached start given (flat_map edges (take m w.queue)) (get_or w.queue i 0)

    pub run_pops : IsClosedFrom → (head : ℕ) (w : CounterLists) → head < length w.queue
        → ((y : ℕ) → 0 < times y (edges (get_or w.queue head 0)) → y < length w.need)
        → IsRun head w → IsRun (head + 1) (fold hit w (edges (get_or w.queue head 0)))
    run_pops closed head w lt inside r =
        let x : ℕ = get_or w.queue head 0 in
        let w' : CounterLists = fold hit w (edges (get_or w.queue head 0)) in
        let grown = queue-hits (edges (get_or w.queue head 0)) w in
        let c = counts_hits (edges (get_or w.queue head 0)) (flat_map edges (take head w.queue)) w inside r.counts in
        let front : flat_map edges (take (head + 1) w.queue) ≡ flat_map edges (take head w.queue) ++ edges (get_or w.queue head 0) =
        ap (flat_map edges) (take_more w.queue head 0 lt)
        ∙ flat_map-append edges (take head w.queue) (get_or w.queue head 0 ∷ [])
        ∙ ap (λ (ys : List ℕ). flat_map edges (take head w.queue) ++ ys) (flat_map-cons edges (get_or w.queue head 0) [] ∙ append-nil (edges (get_or w.queue head 0))) in
        let same : take (head + 1) (fold hit w (edges (get_or w.queue head 0))).queue ≡ take (head + 1) w.queue =
        ap (take (head + 1)) grown.1 ∙ take-append-le (head + 1) w.queue grown.0 (omega arith) in
        let all : flat_map edges (take (head + 1) (fold hit w (edges (get_or w.queue head 0))).queue) ≡ flat_map edges (take head w.queue) ++ edges (get_or w.queue head 0) =
        ap (flat_map edges) same ∙ front in
        record {
          counts = subst (λ (h : List ℕ). Counts start given h (fold hit w (edges (get_or w.queue head 0)))) (sym all) c;
          within = omega (arith, ap length grown.1, length-append w.queue grown.0);
          means = λ y m. elim (c.sound y m) [
            | inl g ↦ closed.at_once y g
            | inr h ↦
                closed.by_hits (take (head + 1) w.queue)
                (λ z. omega (arith, r.counts.once z, times-take z (head + 1) w.queue))
                (λ z n. r.means z (omega (arith, n, times-take z (head + 1) w.queue))) y h.0
                (subst (λ (hits : List ℕ). start y ≤ times y hits) (sym front) h.1)
          ];
          order = λ i within. elim (cases_lt i (length w.queue)) [
            | inl old ↦
                let o = r.order i old in
                let taken : take o.0 (w.queue ++ grown.0) ≡ take o.0 w.queue = take-append-le o.0 w.queue grown.0 (omega (arith, o.2, r.within)) in (
                  o.0,
                  o.1,
                  omega (arith, o.2),
                  subst (λ (q : List ℕ). IsReached start given (flat_map edges (take o.0 q)) (get_or q i 0)) (sym grown.1)
                      (subst (λ (front : List ℕ). IsReached start given (flat_map edges front) (get_or (w.queue ++ grown.0) i 0)) (sym taken)
                      (subst (λ (y : ℕ). IsReached start given (flat_map edges (take o.0 w.queue)) y)
                      (sym (get_or_append_left w.queue grown.0 0 i old)) o.3)),
                )
            | inr late ↦ (
              head + 1,
              omega (arith, lt, late),
              omega arith,
              subst (λ (hits : List ℕ). IsReached start given hits (get_or (fold hit w (edges (get_or w.queue head 0))).queue i 0)) (sym all)
                  (c.sound (get_or (fold hit w (edges (get_or w.queue head 0))).queue i 0)
                  (times-get_or (fold hit w (edges (get_or w.queue head 0))).queue i 0 within)),
            )
          ];
        }

    -- at the end a node stands in the queue exactly if it is reached by hits from the queue, and it is reached from those before it
    pub record IsSettled (w : CounterLists) : Type 0 where
      pub once : (y : ℕ) → times y w.queue ≤ 1
      pub means : (y : ℕ) → 0 < times y w.queue → Means y
      pub inside : (y : ℕ) → 0 < times y w.queue → y < length w.need
      pub order : (i : ℕ) → i < length w.queue → (m : ℕ) × (m ≤ i) × IsReached start given (flat_map edges (take m w.queue)) (get_or w.queue i 0)
      pub complete : (y : ℕ) → y < length w.need → IsReached start given (flat_map edges w.queue) y → 0 < times y w.queue

    pub run_ends : (head : ℕ) (w : CounterLists) → length w.queue ≤ head → IsRun head w → IsSettled w
    run_ends head w end r =
        let e : flat_map edges (take head w.queue) ≡ flat_map edges w.queue = ap (flat_map edges) (take_all head w.queue end) in
        record {
          once = r.counts.once;
          means = r.means;
          inside = r.counts.inside;
          order = λ i lt. let o = r.order i lt in (o.0, o.1, o.3);
          complete = λ y lt h. r.counts.complete y lt (subst (λ (hits : List ℕ). IsReached start given hits y) (sym e) h);
        }
