-- What the fields of counters keep.
use Rattle.std.proofs.Common.{◌≡◌, ◌≢◌, ℕ, ◌+◌, ◌-◌, ◌<◌, ◌≤◌, ◌==◌, ◌&&◌, ◌⊎◌, Bool, true, false, cond, not, List, [], ◌∷◌, ◌++◌, length, get_or, set, inl, inr, sym, subst, ap, refl, ◌∙◌, arith, length-set, length-append, get_or-set_same, get_or-set_other, true≢false}
use Rattle.std.specs.Prelude.{nat_lt}
use Rattle.std.proofs.lemmas.Bool.{cases_eq, lt-ltb, eq-eqb, ne_eqb}
use Rattle.std.proofs.lemmas.List.{set-get_or, append-nil}
use Rattle.std.proofs.lemmas.List.Sums.{sum_by-set}
use Rattle.dl_graph.specs.Counting.{times}
use Rattle.dl_fill.specs.Cells.{CellLists, comes_down, counted_down}
use Rattle.dl_fill.specs.Counters.{CounterLists, hit, waiting, IsQueue, IsKept}
use Rattle.dl_fill.specs.Prepared.{one_if}
use Rattle.dl_fill.proofs.Times.{times_push_same, times_push_other, times_cons_same, times_cons_other}

pub set_kept : (xs : List ℕ) (y v : ℕ) → get_or xs y 0 ≡ v → set xs y v ≡ xs
set_kept xs y v h = ap (set xs y) (sym h) ∙ set-get_or xs y 0

-- ---- how many wait

waiting-set : (need : List ℕ) (z v : ℕ) → z < length need → waiting (set need z v) + one_if (nat_lt 0 (get_or need z 0)) ≡ waiting need + one_if (nat_lt 0 v)
waiting-set need z v lt =
    let s = sum_by-set (λ (n : ℕ). cond (nat_lt 0 n) 1 0) need z v 0 lt in
    omega (arith, s)

one_most : (b : Bool) → one_if b ≤ 1
one_most true = omega arith
one_most false = omega arith

waiting_more : (need : List ℕ) (z v : ℕ) → z < length need → waiting (set need z v) ≤ waiting need + 1
waiting_more need z v lt = omega (arith, waiting-set need z v lt, one_most (nat_lt 0 v))

waiting_none : (need : List ℕ) (z v : ℕ) → z < length need → v ≡ 0 → waiting (set need z v) ≤ waiting need
waiting_none need z v lt e = omega (arith, waiting-set need z v lt, ap (λ (n : ℕ). one_if (nat_lt 0 n)) e)

waiting_less : (need : List ℕ) (z : ℕ) → z < length need → 0 < get_or need z 0 → waiting (set need z 0) + 1 ≡ waiting need
waiting_less need z lt h = omega (arith, waiting-set need z 0 lt, ap one_if (lt-ltb 0 (get_or need z 0) h))

waiting_down : (need : List ℕ) (z v : ℕ) → z < length need → v ≤ get_or need z 0 → waiting (set need z v) ≤ waiting need
waiting_down need z v lt le = elim (cases_eq (get_or need z 0) 0) [
  | inl none ↦ waiting_none need z v lt (omega (arith, none, le))
  | inr some ↦ omega (arith, waiting-set need z v lt, ap one_if (lt-ltb 0 (get_or need z 0) (omega (arith, some))), one_most (nat_lt 0 v))
]

-- ---- the queue

-- a node, where it fires
abbrev pub one_where : Bool → ℕ → List ℕ
one_where on y = cond on (y ∷ []) []

module _ (fired : List Bool) (need queue : List ℕ) (h : IsQueue fired need queue) where
  -- a node that has fired waits for nothing
  pub fired_idle : (y : ℕ) → y < length fired → get_or fired y false ≡ true → get_or need y 0 ≡ 0
  fired_idle y lt e = elim (cases_eq (times y queue) 0) [
    | inl none ↦ absurd (true≢false (sym e ∙ h.fires y lt ∙ ap (nat_lt 0) none))
    | inr some ↦ h.idle y (omega (arith, some))
  ]

  -- a node that waits is not in the queue
  pub waits_outside : (y : ℕ) → 0 < get_or need y 0 → times y queue ≡ 0
  waits_outside y waits = elim (cases_eq (times y queue) 0) [
    | inl none ↦ none
    | inr some ↦ absurd (omega (arith, waits, h.idle y (omega (arith, some))))
  ]

-- the first node leaves the queue
pub queue_wiped : (fired : List Bool) (need : List ℕ) (x : ℕ) (queue : List ℕ) → IsQueue fired need (x ∷ queue) → IsQueue (set fired x false) need queue
queue_wiped fired need x queue h =
    let first : times x (x ∷ queue) ≡ 1 + times x queue = times_cons_same x x queue refl in
    let none : times x queue ≡ 0 = omega (arith, first, h.once x) in
    let longer : (z : ℕ) → times z queue ≤ times z (x ∷ queue) = λ z. omega arith in
    record {
      size = h.size ∙ sym (length-set _ _ _);
      fires = λ z lt. elim (cases_eq z x) [
        | inl is ↦
            subst (λ (k : ℕ). get_or (set fired x false) k false ≡ nat_lt 0 (times k queue)) (sym is)
            (get_or-set_same fired x false false (h.within x (omega (arith, first))) ∙ ap (nat_lt 0) (sym none))
        | inr other ↦
            get_or-set_other fired x z false false other ∙ h.fires z (omega (arith, lt, length-set {A = Bool}))
            ∙ ap (nat_lt 0) (times_cons_other z x queue other)
      ];
      idle = λ z m. h.idle z (omega (arith, m, longer z));
      within = λ z m. omega (arith, h.within z (omega (arith, m, longer z)), length-set {A = Bool});
      once = λ z. omega (arith, h.once z, longer z);
    }

-- ---- the fields

module _ (fired : List Bool) (need queue : List ℕ) (capacity : ℕ) (h : IsKept fired need queue capacity) where
  -- a node of the queue is a node
  pub node_within : (y : ℕ) → 0 < times y queue → y < length need
  node_within y m = omega (arith, h.queued.within y m, h.queued.size)

  module _ (y : ℕ) (lt : y < length need) where
    -- a node out of the queue fires
    pub fired_kept : times y queue ≡ 0 → length queue + waiting (set need y 0) < length need
        → IsKept (set fired y true) (set need y 0) (queue ++ y ∷ []) capacity
    fired_kept fresh more = record {
      queued = record {
        size = length-set _ _ _ ∙ h.queued.size ∙ sym (length-set _ _ _);
        fires = λ z le. elim (cases_eq z y) [
          | inl is ↦
              subst (λ (k : ℕ). get_or (set fired y true) k false ≡ nat_lt 0 (times k (queue ++ y ∷ []))) (sym is)
              (get_or-set_same fired y true false (omega (arith, lt, h.queued.size))
              ∙ sym (lt-ltb 0 (times y (queue ++ y ∷ [])) (omega (arith, times_push_same y y queue refl))))
          | inr other ↦
              get_or-set_other fired y z true false other ∙ h.queued.fires z (omega (arith, le, length-set {A = Bool}))
              ∙ ap (nat_lt 0) (sym (times_push_other z y queue other))
        ];
        idle = λ z m. elim (cases_eq z y) [
          | inl is ↦ ap (λ k. get_or (set need y 0) k 0) is ∙ get_or-set_same need y 0 0 lt
          | inr other ↦ get_or-set_other need y z 0 0 other ∙ h.queued.idle z (omega (arith, m, times_push_other z y queue other))
        ];
        within = λ z m. elim (cases_eq z y) [
          | inl is ↦ omega (arith, is, lt, h.queued.size, length-set {A = Bool})
          | inr other ↦ omega (arith, h.queued.within z (omega (arith, m, times_push_other z y queue other)), length-set {A = Bool})
        ];
        once = λ z. elim (cases_eq z y) [
          | inl is ↦ omega (arith, times_push_same z y queue is, ap (λ k. times k queue) is, fresh)
          | inr other ↦ omega (arith, times_push_other z y queue other, h.queued.once z)
        ];
      };
      few = omega (arith, more, length-append {A = ℕ}, length-set {A = ℕ});
      small = omega (arith, h.small, length-set {A = ℕ});
      room = λ some. omega (arith, h.room (omega (arith, lt)), length-set {A = ℕ});
    }

    -- a node out of the queue waits for another number of hits
    pub need_kept : (v : ℕ) → (v ≡ 0) ⊎ (times y queue ≡ 0) → length queue + waiting (set need y v) ≤ length need → IsKept fired (set need y v) queue capacity
    need_kept v fresh few = record {
      queued = record {
        size = length-set _ _ _ ∙ h.queued.size;
        fires = h.queued.fires;
        idle = λ z m. elim (cases_eq z y) [
          | inl is ↦
              ap (λ k. get_or (set need y v) k 0) is ∙ get_or-set_same need y v 0 lt
              ∙ elim fresh [
                | inl none ↦ none
                | inr out ↦ absurd (omega (arith, m, ap (λ k. times k queue) is, out))
              ]
          | inr other ↦ get_or-set_other need y z v 0 other ∙ h.queued.idle z m
        ];
        within = h.queued.within;
        once = h.queued.once;
      };
      few = omega (arith, few, length-set {A = ℕ});
      small = omega (arith, h.small, length-set {A = ℕ});
      room = λ some. omega (arith, h.room (omega (arith, lt)), length-set {A = ℕ});
    }

    pub waits_kept : (v : ℕ) → (v ≡ 0) ⊎ (times y queue ≡ 0) → (v ≡ 0) ⊎ (length queue + waiting need < length need) → IsKept fired (set need y v) queue capacity
    waits_kept v fresh more =
        need_kept v fresh
        (elim more [
          | inl none ↦ omega (arith, waiting_none need y v lt none, h.few)
          | inr some ↦ omega (arith, waiting_more need y v lt, some)
        ])

    -- ---- a hit

    abbrev left : ℕ
    left = get_or need y 0

    abbrev cells : CellLists
    cells = record { flags = fired; numbers = need }

    abbrev lowered : Bool → Bool → CellLists
    lowered on last = cond on cells (record { flags = set fired y last; numbers = set need y (left - 1) })

    idle_on : get_or fired y false ≡ true → left ≡ 0
    idle_on e = fired_idle fired need queue h.queued y (omega (arith, lt, h.queued.size)) e

    comes_last : comes_down cells y ≡ (left == 1)
    comes_last = by_flag (get_or fired y false) refl
      where
        by_flag : (on : Bool) → get_or fired y false ≡ on → (not on && (left == 1)) ≡ (left == 1)
        by_flag true e = sym (ap (λ n. n == 1) (idle_on e))
        by_flag false e = refl

    counted_last : left ≡ 1 → counted_down cells y ≡ record { flags = set fired y true; numbers = set need y 0 }
    counted_last e = by_flag (get_or fired y false) refl ∙ ap (λ n. record { flags = set fired y (n == 1); numbers = set need y (n - 1) }) e
      where
        by_flag : (on : Bool) → get_or fired y false ≡ on → lowered on (left == 1) ≡ lowered false (left == 1)
        by_flag true k = absurd (omega (arith, e, idle_on k))
        by_flag false k = refl

    last_kept : left ≡ 1 → IsKept (set fired y true) (set need y 0) (queue ++ y ∷ []) capacity
    last_kept e =
        fired_kept (waits_outside fired need queue h.queued y (omega (arith, e)))
        (omega (arith, waiting_less need y lt (omega (arith, e)), h.few))

    more_left : left ≢ 1 → counted_down cells y ≡ record { flags = fired; numbers = set need y (left - 1) }
    more_left n = by_flag (get_or fired y false) refl
      where
        by_flag : (on : Bool) → get_or fired y false ≡ on → lowered on (left == 1) ≡ record { flags = fired; numbers = set need y (left - 1) }
        by_flag true k =
            ap (λ (ns : List ℕ). record { flags = fired; numbers = ns }) (sym (set_kept need y (left - 1) (omega (arith, idle_on k))))
        by_flag false k =
            ap (λ (fs : List Bool). record { flags = fs; numbers = set need y (left - 1) })
            (ap (set fired y) (ne_eqb left 1 n ∙ sym k) ∙ set-get_or fired y false)

    more_kept : left ≢ 1 → IsKept fired (set need y (left - 1)) queue capacity
    more_kept n =
        need_kept (left - 1)
        (elim (cases_eq left 0) [
          | inl none ↦ inl (omega (arith, none))
          | inr some ↦ inr (waits_outside fired need queue h.queued y (omega (arith, some)))
        ])
        (omega (arith, waiting_down need y (left - 1) lt (omega arith), h.few))

    abbrev lists : CounterLists
    lists = record { need = need; queue = queue }

    abbrev hit_by : Bool → Bool → CounterLists
    hit_by none last = cond none lists (record { need = set need y (left - 1); queue = cond last (queue ++ y ∷ []) queue })

    -- counters whose cell has counted down, and whose queue has the node where it came down
    pub record IsHit (v : CellLists) (on : Bool) : Type 0 where
      pub kept : IsKept v.flags v.numbers (queue ++ one_where on y) capacity
      pub same : hit lists y ≡ record { need = v.numbers; queue = queue ++ one_where on y }

    last_hit : left ≡ 1 → IsHit (record { flags = set fired y true; numbers = set need y 0 }) true
    last_hit e = record {
      kept = last_kept e;
      same =
          ap (λ b. hit_by b (left == 1)) (ne_eqb left 0 (omega (arith, e))) ∙ ap (hit_by false) (eq-eqb left 1 e)
          ∙ ap (λ (n : ℕ). record { need = set need y (n - 1); queue = queue ++ y ∷ [] }) e;
    }

    more_hit : left ≢ 1 → IsHit (record { flags = fired; numbers = set need y (left - 1) }) false
    more_hit n = record {
      kept = subst (λ (xs : List ℕ). IsKept fired (set need y (left - 1)) xs capacity) (sym (append-nil queue)) (more_kept n);
      same =
          elim (cases_eq left 0) [
            | inl none ↦
                ap (λ b. hit_by b (left == 1)) (eq-eqb left 0 none)
                ∙ ap (λ (ns : List ℕ). record { need = ns; queue = queue }) (sym (set_kept need y (left - 1) (omega (arith, none))))
            | inr some ↦ ap (λ b. hit_by b (left == 1)) (ne_eqb left 0 some) ∙ ap (hit_by false) (ne_eqb left 1 n)
          ]
          ∙ ap (λ (xs : List ℕ). record { need = set need y (left - 1); queue = xs }) (sym (append-nil queue));
    }

    pub one_hit : IsHit (counted_down cells y) (comes_down cells y)
    one_hit = elim (cases_eq left 1) [
      | inl e ↦
          subst (λ (v : CellLists). IsHit v (comes_down cells y)) (sym (counted_last e))
          (subst (λ (b : Bool). IsHit (record { flags = set fired y true; numbers = set need y 0 }) b) (sym (comes_last ∙ eq-eqb left 1 e)) (last_hit e))
      | inr n ↦
          subst (λ (v : CellLists). IsHit v (comes_down cells y)) (sym (more_left n))
          (subst (λ (b : Bool). IsHit (record { flags = fired; numbers = set need y (left - 1) }) b) (sym (comes_last ∙ ne_eqb left 1 n)) (more_hit n))
    ]
