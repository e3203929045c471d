-- Going back along nodes each of which is passed by nodes before it: what is kept is passed by what is kept before it, but for what it
-- still asks of the nodes in front.
use Rattle.std.proofs.Common.{◌≡◌, ◌≢◌, ℕ, ◌+◌, ◌-◌, ◌/◌, ◌%◌, ◌<◌, ◌≤◌, Bool, true, false, List, [], ◌∷◌, ◌++◌, length, get_or, set, take, drop, reverse, inl, inr, ◌⊎◌, sym, subst, ap, refl, ◌∙◌, arith, append_assoc, length-set, true≢false}
use Rattle.std.proofs.lemmas.Bool.{cases_eq}
use Rattle.std.proofs.lemmas.List.{get_or-set_same, get_or-set_other, append-nil, take_more, take_all, drop_more, drop_all, take-append-drop, reverse-append}
use Rattle.dl_graph.specs.Counting.{times}
use Rattle.dl_fill.specs.declared.wire.Gate.{Gate}
use Rattle.dl_fill.specs.declared.wire.Gate.TheVariants.{Every, Either, Now, Never}
use Rattle.dl_fill.specs.declared.needs.Need.{Need}
use Rattle.dl_fill.specs.declared.needs.Need.TheVariants.{Nothing, Each, One}
use Rattle.dl_fill.specs.Gates.{Passes}
use Rattle.dl_graph.specs.Numbers.{NetLists}
use Rattle.dl_fill.specs.declared.wire.Wire.{Wire}
use Rattle.dl_fill.specs.Before.{Before}
use Rattle.dl_fill.specs.Wires.{inputs}
use Rattle.dl_fill.specs.Passing.{Passing, IsOrdered}
use Rattle.dl_fill.specs.Pruned.{Asking, need_at, asks, answered, need_of, looked, IsVisited, IsPruned}
use Rattle.dl_fill.proofs.Times.{times-append, times_cons_same, times_cons_other, times_push_same, times_push_other, times-get_or}
use Rattle.dl_fill.proofs.Serving.{IsServed, serves, length-serves, asks_none}

-- the gate is passed by nodes before y, or asks what is missing of the nodes in front
abbrev Half : List ℕ → List Need → List ℕ → ℕ → Gate → List ℕ → Type 0
Half front needs before y Every xs = (x : ℕ) → 0 < times x xs → (0 < times x before) ⊎ ((0 < times x front) × (need_at needs y ≡ Each))
Half front needs before y Either xs =
    ((x : ℕ) × (0 < times x xs) × (0 < times x before)) ⊎ ((need_at needs y ≡ One) × ((x : ℕ) × (0 < times x xs) × (0 < times x front)))
Half front needs before y Now xs = Unit {0}
Half front needs before y Never xs = ⊥

module _ (inputs : ℕ → List ℕ) (gate : ℕ → Gate) (wanted : List Bool) (size : ℕ) where
  abbrev pub Halfway : List ℕ → List Need → List ℕ → List ℕ → Type 0
  Halfway front needs before [] = Unit {0}
  Halfway front needs before (y ∷ rest) =
      (times y before ≡ 0) × Half front needs before y (gate y) (inputs y) × Halfway front needs (before ++ y ∷ []) rest

  -- each is halfway after a step, behind what came in front
  halfway_more : (front front' : List ℕ) (needs needs' : List Need) (first : List ℕ) (before rest : List ℕ)
      → ((y : ℕ) → 0 < times y rest → times y first ≡ 0)
      → ((y : ℕ) (b : List ℕ) → 0 < times y rest → Half front needs b y (gate y) (inputs y) → Half front' needs' (first ++ b) y (gate y) (inputs y))
      → Halfway front needs before rest → Halfway front' needs' (first ++ before) rest
  halfway_more front front' needs needs' first before [] apart step h = tt
  halfway_more front front' needs needs' first before (y ∷ rest) apart step h =
      let here : 0 < times y (y ∷ rest) = omega (arith, times_cons_same y y rest refl) in (
        omega (arith, times-append y first before, apart y here, h.0),
        step y before here h.1,
        subst (λ (b : List ℕ). Halfway front' needs' b rest) (sym (append_assoc first before (y ∷ [])))
            (halfway_more front front' needs needs' first (before ++ y ∷ []) rest (λ z m. apart z (omega (arith, m))) (λ z b m. step z b (omega (arith, m))) h.2),
      )

  -- a node among others
  pub passing_at : (before xs : List ℕ) (x : ℕ) (ys : List ℕ) → Passing inputs gate before (xs ++ x ∷ ys)
      → (times x (before ++ xs) ≡ 0) × Passes (λ z. 0 < times z (before ++ xs)) (gate x) (inputs x) × Passing inputs gate ((before ++ xs) ++ x ∷ []) ys
  passing_at before [] x ys p =
      let e : before ≡ before ++ [] = sym (append-nil before) in (
        subst (λ (b : List ℕ). times x b ≡ 0) e p.0,
        subst (λ (b : List ℕ). Passes (λ z. 0 < times z b) (gate x) (inputs x)) e p.1,
        subst (λ (b : List ℕ). Passing inputs gate (b ++ x ∷ []) ys) e p.2,
      )
  passing_at before (w ∷ xs) x ys p =
      subst (λ (b : List ℕ). (times x b ≡ 0) × Passes (λ z. 0 < times z b) (gate x) (inputs x) × Passing inputs gate (b ++ x ∷ []) ys)
      (append_assoc before (w ∷ []) xs) (passing_at (before ++ w ∷ []) xs x ys p.2)

  -- what comes later is new
  passing_new : (before rest : List ℕ) → Passing inputs gate before rest → (y : ℕ) → 0 < times y rest → times y before ≡ 0
  passing_new before [] p y m = absurd (omega (arith, m))
  passing_new before (x ∷ rest) p y m = elim (cases_eq y x) [
    | inl same ↦ subst (λ (v : ℕ). times v before ≡ 0) (sym same) p.0
    | inr other ↦
        let later : times y (before ++ x ∷ []) ≡ 0 = passing_new (before ++ x ∷ []) rest p.2 y (omega (arith, m, times_cons_other y x rest other)) in
        omega (arith, later, times_push_other y x before other)
  ]

  pub record IsPruning (front rest kept : List ℕ) (needs : List Need) : Type 0 where
    pub half : Halfway front needs [] kept
    pub within : (y : ℕ) → 0 < times y kept → 0 < times y rest
    pub has : (y : ℕ) → 0 < times y rest → get_or wanted y false ≡ true → 0 < times y kept
    pub last : (before : List ℕ) (x : ℕ) → rest ≡ before ++ x ∷ [] → get_or wanted x false ≡ true → (g : List ℕ) × (kept ≡ g ++ x ∷ [])
    pub len : length needs ≡ size

  pub pruning_starts : (nodes : List ℕ) (needs : List Need) → length needs ≡ size → IsPruning nodes [] [] needs
  pruning_starts nodes needs e = record {
    half = tt;
    within = λ y m. m;
    has = λ y m w. m;
    last = λ before x e w. absurd (omega (arith, ap (times x) e, times_push_same x x before refl));
    len = e;
  }

  tail_of : (x w : ℕ) (rest before : List ℕ) → x ∷ rest ≡ before ++ w ∷ []
      → ((rest ≡ []) × (x ≡ w)) ⊎ ((g : List ℕ) × (rest ≡ g ++ w ∷ []))
  tail_of x w rest [] e = inl (ap rest_of e, ap (λ (xs : List ℕ). get_or xs 0 0) e)
    where
      rest_of : List ℕ → List ℕ
      rest_of [] = []
      rest_of (y ∷ ys) = ys
  tail_of x w rest (b ∷ before) e = inr (before, ap rest_of e)
    where
      rest_of : List ℕ → List ℕ
      rest_of [] = []
      rest_of (y ∷ ys) = ys

  none_of : (xs : List ℕ) → ((y : ℕ) → 0 < times y xs → ⊥) → xs ≡ []
  none_of [] h = refl
  none_of (x ∷ xs) h = absurd (h x (omega (arith, times_cons_same x x xs refl)))

  module _ (edges : ℕ → List ℕ) (front : List ℕ) (x : ℕ) (turned : (y : ℕ) → times y (edges x) ≡ times x (inputs y)) (rest kept : List ℕ) (needs : List Need)
      (order : Passing inputs gate [] (front ++ x ∷ rest)) (inside : x < size) (edges_inside : (y : ℕ) → 0 < times y (edges x) → y < size)
      (p : IsPruning (front ++ x ∷ []) rest kept needs) where
    abbrev mid : Asking
    mid = looked edges x needs

    served : IsServed (edges x) (record { needs = needs; asked = false }) (looked edges x needs)
    served = serves (edges x) (record { needs = needs; asked = false }) (λ y m. omega (arith, edges_inside y m, p.len))

    mid_size : length (looked edges x needs).needs ≡ size
    mid_size = length-serves (edges x) (record { needs = needs; asked = false }) ∙ p.len

    at : (times x front ≡ 0) × Passes (λ z. 0 < times z front) (gate x) (inputs x) × Passing inputs gate (front ++ x ∷ []) rest
    at = passing_at [] front x rest order

    kept_other : (y : ℕ) → 0 < times y kept → y ≢ x
    kept_other y m e =
        let none : times y (front ++ x ∷ []) ≡ 0 = passing_new (front ++ x ∷ []) rest at.2 y (p.within y m) in
        omega (arith, none, times_push_same y x front e)

    is_edge : (y : ℕ) → 0 < times x (inputs y) → 0 < times y (edges x)
    is_edge y m = omega (arith, m, turned y)

    is_input : (y : ℕ) → 0 < times y (edges x) → 0 < times x (inputs y)
    is_input y m = omega (arith, m, turned y)

    in_front : (z : ℕ) → 0 < times z (front ++ x ∷ []) → z ≢ x → 0 < times z front
    in_front z m n = omega (arith, m, times_push_other z x front n)

    -- no kept node asked for x
    module _ (unasked : (looked edges x needs).asked ≡ false) where
      nothing : (y : ℕ) → 0 < times y (edges x) → need_at needs y ≡ Nothing
      nothing y m = asks_none (need_at needs y) (served.unasked unasked y m)

      same_need : (y : ℕ) → need_at (looked edges x needs).needs y ≡ need_at needs y
      same_need y = elim (cases_eq (times y (edges x)) 0) [
        | inl none ↦ served.others y none
        | inr some ↦
            let n = nothing y (omega arith) in
            served.served y (omega arith) ∙ ap answered n ∙ sym n
      ]

      no_input : (y : ℕ) (n : Need) → need_at needs y ≡ n → asks n ≡ true → 0 < times x (inputs y) → ⊥
      no_input y n e a m = true≢false (sym a ∙ ap asks (sym e ∙ nothing y (is_edge y m)))

      left_step : (y : ℕ) (b : List ℕ) (g : Gate) (xs : List ℕ) → ((z : ℕ) → times z xs ≡ times z (inputs y))
          → Half (front ++ x ∷ []) needs b y g xs → Half front (looked edges x needs).needs ([] ++ b) y g xs
      left_step y b Every xs e h = λ z m. elim (h z m) [
        | inl early ↦ inl early
        | inr late ↦ inr (
          in_front z late.0 (λ same. no_input y Each late.1 refl (subst (λ (v : ℕ). 0 < times v (inputs y)) same (omega (arith, m, e z)))),
          same_need y ∙ late.1,
        )
      ]
      left_step y b Either xs e (inl early) = inl early
      left_step y b Either xs e (inr late) =
          inr (
            same_need y ∙ late.0,
            (
              late.1.0,
              late.1.1,
              in_front late.1.0 late.1.2
                  (λ same. no_input y One late.0 refl (subst (λ (v : ℕ). 0 < times v (inputs y)) same (omega (arith, late.1.1, e late.1.0)))),
            ),
          )
      left_step y b Now xs e h = tt
      left_step y b Never xs e h = h

      pub leaves : get_or wanted x false ≡ false → IsPruning front (x ∷ rest) kept (looked edges x needs).needs
      leaves unwanted = record {
        half =
            halfway_more (front ++ x ∷ []) front needs (looked edges x needs).needs [] [] kept (λ y m. refl)
            (λ y b m h. left_step y b (gate y) (inputs y) (λ z. refl) h) p.half;
        within = λ y m. omega (arith, p.within y m, times_cons_other y x rest (kept_other y m));
        has = λ y m w. elim (cases_eq y x) [
          | inl same ↦ absurd (true≢false (sym w ∙ ap (λ (v : ℕ). get_or wanted v false) same ∙ unwanted))
          | inr other ↦ p.has y (omega (arith, m, times_cons_other y x rest other)) w
        ];
        last = λ before w e is. elim (tail_of x w rest before e) [
          | inl single ↦ absurd (true≢false (sym is ∙ ap (λ (v : ℕ). get_or wanted v false) (sym single.1) ∙ unwanted))
          | inr more ↦ p.last more.0 w more.1 is
        ];
        len = mid_size;
      }

    -- x is kept
    abbrev after : List Need
    after = set (looked edges x needs).needs x (need_of (gate x))

    own_need : need_at (set (looked edges x needs).needs x (need_of (gate x))) x ≡ need_of (gate x)
    own_need = get_or-set_same (looked edges x needs).needs x (need_of (gate x)) Nothing (omega (arith, mid_size, inside))

    other_need : (y : ℕ) → y ≢ x → need_at (set (looked edges x needs).needs x (need_of (gate x))) y ≡ need_at (looked edges x needs).needs y
    other_need y n = get_or-set_other (looked edges x needs).needs x y (need_of (gate x)) Nothing n

    own_half : (g : Gate) (n : Need) (xs : List ℕ) → need_of g ≡ need_of g → need_at (set (looked edges x needs).needs x (need_of (gate x))) x ≡ need_of g
        → Passes (λ z. 0 < times z front) g xs → Half front (set (looked edges x needs).needs x (need_of (gate x))) [] x g xs
    own_half Every n xs t e h = λ z m. inr (h z m, e)
    own_half Either n xs t e h = inr (e, h)
    own_half Now n xs t e h = tt
    own_half Never n xs t e h = h

    kept_step : (y : ℕ) (b : List ℕ) → y ≢ x → (g : Gate) (xs : List ℕ) → ((z : ℕ) → times z xs ≡ times z (inputs y))
        → Half (front ++ x ∷ []) needs b y g xs → Half front (set (looked edges x needs).needs x (need_of (gate x))) (x ∷ b) y g xs
    kept_step y b n Every xs e h = λ z m. elim (h z m) [
      | inl early ↦ inl (omega (arith, early))
      | inr late ↦ elim (cases_eq z x) [
        | inl same ↦ inl (omega (arith, times_cons_same z x b same))
        | inr other ↦ inr (
          in_front z late.0 other,
          other_need y n ∙ elim (cases_eq (times y (edges x)) 0) [
            | inl none ↦ served.others y none ∙ late.1
            | inr some ↦ served.served y (omega arith) ∙ ap answered late.1
          ],
        )
      ]
    ]
    kept_step y b n Either xs e (inl early) = inl (early.0, early.1, omega (arith, early.2))
    kept_step y b n Either xs e (inr late) = elim (cases_eq (times y (edges x)) 0) [
      | inl none ↦
          inr (
            other_need y n ∙ served.others y none ∙ late.0,
            (
              late.1.0,
              late.1.1,
              in_front late.1.0 late.1.2
                  (λ same.
                  let m : 0 < times x (inputs y) = subst (λ (v : ℕ). 0 < times v (inputs y)) same (omega (arith, late.1.1, e late.1.0)) in
                  omega (arith, none, is_edge y m)),
            ),
          )
      | inr some ↦ inl (x, omega (arith, e x, is_input y (omega arith)), omega (arith, times_cons_same x x b refl))
    ]
    kept_step y b n Now xs e h = tt
    kept_step y b n Never xs e h = h

    pub keeps : IsPruning front (x ∷ rest) (x ∷ kept) (set (looked edges x needs).needs x (need_of (gate x)))
    keeps = record {
      half = (
        refl,
        own_half (gate x) Nothing (inputs x) refl own_need at.1,
        halfway_more (front ++ x ∷ []) front needs (set (looked edges x needs).needs x (need_of (gate x))) (x ∷ []) [] kept
            (λ y m. times_cons_other y x [] (kept_other y m))
            (λ y b m h. kept_step y b (kept_other y m) (gate y) (inputs y) (λ z. refl) h) p.half,
      );
      within = λ y m. elim (cases_eq y x) [
        | inl same ↦ omega (arith, times_cons_same y x rest same)
        | inr other ↦ omega (arith, p.within y (omega (arith, m, times_cons_other y x kept other)), times_cons_other y x rest other)
      ];
      has = λ y m w. elim (cases_eq y x) [
        | inl same ↦ omega (arith, times_cons_same y x kept same)
        | inr other ↦ omega (arith, p.has y (omega (arith, m, times_cons_other y x rest other)) w, times_cons_other y x kept other)
      ];
      last = λ before w e is. elim (tail_of x w rest before e) [
        | inl single ↦
            let none : kept ≡ [] = none_of kept (λ y m. omega (arith, p.within y m, ap (times y) single.0)) in
            ([], ap (λ (xs : List ℕ). x ∷ xs) none ∙ ap (λ (v : ℕ). v ∷ []) single.1)
        | inr more ↦ let k = p.last more.0 w more.1 is in (x ∷ k.0, ap (λ (xs : List ℕ). x ∷ xs) k.1)
      ];
      len = length-set _ _ _ ∙ mid_size;
    }

  -- at the start of the nodes nothing is asked any more
  all_passed : (g : Gate) (xs : List ℕ) (needs : List Need) (before : List ℕ) (y : ℕ) → Half [] needs before y g xs → Passes (λ z. 0 < times z before) g xs
  all_passed Every xs needs before y h = λ z m. elim (h z m) [ inl early ↦ early | inr late ↦ absurd (omega (arith, late.0)) ]
  all_passed Either xs needs before y (inl early) = early
  all_passed Either xs needs before y (inr late) = absurd (omega (arith, late.1.2))
  all_passed Now xs needs before y h = tt
  all_passed Never xs needs before y h = h

  halfway_passes : (needs : List Need) (before rest : List ℕ) → Halfway [] needs before rest → Passing inputs gate before rest
  halfway_passes needs before [] h = tt
  halfway_passes needs before (y ∷ rest) h =
      (h.0, all_passed (gate y) (inputs y) needs before y h.1, halfway_passes needs (before ++ y ∷ []) rest h.2)

  pub pruning_ends : (nodes kept : List ℕ) (needs : List Need) → IsPruning [] nodes kept needs → IsPruned inputs gate nodes wanted kept
  pruning_ends nodes kept needs p = record { passing = halfway_passes needs [] kept p.half; within = p.within; has = p.has; last = p.last }

  -- one node of a list, from the end
  pub pruning_visits : (edges : ℕ → List ℕ) (nodes : List ℕ) → ((x y : ℕ) → 0 < times x nodes → times y (edges x) ≡ times x (inputs y)) → (n : ℕ) (kept kept' : List ℕ) (needs needs' : List Need)
      → Passing inputs gate [] nodes → n < length nodes → ((y : ℕ) → 0 < times y nodes → y < size)
      → ((y : ℕ) → 0 < times y (edges (get_or nodes n 0)) → y < size)
      → IsPruning (take (n + 1) nodes) (drop (n + 1) nodes) (reverse kept) needs
      → IsVisited edges gate (get_or nodes n 0) (get_or wanted (get_or nodes n 0) false) needs kept needs' kept'
      → IsPruning (take n nodes) (drop n nodes) (reverse kept') needs'
  pruning_visits edges nodes turned n kept kept' needs needs' order lt inside within p visited =
      let x : ℕ = get_or nodes n 0 in
      let front : take (n + 1) nodes ≡ take n nodes ++ get_or nodes n 0 ∷ [] = take_more nodes n 0 lt in
      let back : drop n nodes ≡ get_or nodes n 0 ∷ drop (n + 1) nodes = drop_more nodes n 0 lt in
      let whole : nodes ≡ take n nodes ++ get_or nodes n 0 ∷ drop (n + 1) nodes =
      sym (take-append-drop n nodes) ∙ ap (λ (xs : List ℕ). take n nodes ++ xs) back in
      let order' : Passing inputs gate [] (take n nodes ++ get_or nodes n 0 ∷ drop (n + 1) nodes) = subst (Passing inputs gate []) whole order in
      let p' : IsPruning (take n nodes ++ get_or nodes n 0 ∷ []) (drop (n + 1) nodes) (reverse kept) needs =
      subst (λ (f : List ℕ). IsPruning f (drop (n + 1) nodes) (reverse kept) needs) front p in
      let there : 0 < times (get_or nodes n 0) nodes = times-get_or nodes n 0 lt in
      let here : get_or nodes n 0 < size = inside (get_or nodes n 0) there in
      subst (λ (r : List ℕ). IsPruning (take n nodes) r (reverse kept') needs') (sym back)
      (elim visited [
        | inl keep ↦
            subst (λ (k : List ℕ). IsPruning (take n nodes) (get_or nodes n 0 ∷ drop (n + 1) nodes) k needs')
            (sym (ap reverse keep.0 ∙ reverse-append kept (get_or nodes n 0 ∷ [])))
            (subst (IsPruning (take n nodes) (get_or nodes n 0 ∷ drop (n + 1) nodes) (get_or nodes n 0 ∷ reverse kept)) (sym keep.1)
            (keeps edges (take n nodes) (get_or nodes n 0) (λ y. turned (get_or nodes n 0) y there) (drop (n + 1) nodes) (reverse kept) needs order' here within p'))
        | inr leave ↦
            subst (λ (k : List ℕ). IsPruning (take n nodes) (get_or nodes n 0 ∷ drop (n + 1) nodes) (reverse k) needs') (sym leave.2)
            (subst (IsPruning (take n nodes) (get_or nodes n 0 ∷ drop (n + 1) nodes) (reverse kept)) (sym leave.3)
            (leaves edges (take n nodes) (get_or nodes n 0) (λ y. turned (get_or nodes n 0) y there) (drop (n + 1) nodes) (reverse kept) needs order' here within p' leave.0 leave.1))
      ])

  -- by how many were visited
  pub pruning_begins : (nodes : List ℕ) (k : ℕ) (needs : List Need) → length nodes ≤ k → length needs ≡ size → IsPruning (take k nodes) (drop k nodes) [] needs
  pruning_begins nodes k needs past e =
      subst (λ (f : List ℕ). IsPruning f (drop k nodes) [] needs) (sym (take_all k nodes past))
      (subst (λ (r : List ℕ). IsPruning nodes r [] needs) (sym (drop_all k nodes past)) (pruning_starts nodes needs e))

  pub pruning_goes : (edges : ℕ → List ℕ) (nodes : List ℕ) → ((x y : ℕ) → 0 < times x nodes → times y (edges x) ≡ times x (inputs y)) → (i : ℕ) (kept kept' : List ℕ) (needs needs' : List Need)
      → Passing inputs gate [] nodes → i < length nodes → ((y : ℕ) → 0 < times y nodes → y < size)
      → ((y : ℕ) → 0 < times y (edges (get_or nodes (length nodes - 1 - i) 0)) → y < size)
      → IsPruning (take (length nodes - i) nodes) (drop (length nodes - i) nodes) (reverse kept) needs
      → IsVisited edges gate (get_or nodes (length nodes - 1 - i) 0) (get_or wanted (get_or nodes (length nodes - 1 - i) 0) false) needs kept needs' kept'
      → IsPruning (take (length nodes - (i + 1)) nodes) (drop (length nodes - (i + 1)) nodes) (reverse kept') needs'
  pruning_goes edges nodes turned i kept kept' needs needs' order lt inside within p visited =
      let same : length nodes - 1 - i ≡ length nodes - (i + 1) = omega arith in
      let more : length nodes - i ≡ length nodes - (i + 1) + 1 = omega (arith, lt) in
      pruning_visits edges nodes turned (length nodes - (i + 1)) kept kept' needs needs' order (omega (arith, lt)) inside
      (subst (λ (n : ℕ). (y : ℕ) → 0 < times y (edges (get_or nodes n 0)) → y < size) same within)
      (subst (λ (n : ℕ). IsPruning (take n nodes) (drop n nodes) (reverse kept) needs) more p)
      (subst (λ (n : ℕ). IsVisited edges gate (get_or nodes n 0) (get_or wanted (get_or nodes n 0) false) needs kept needs' kept') same visited)

  pub pruning_done : (nodes : List ℕ) (k : ℕ) (kept : List ℕ) (needs : List Need) → k ≡ 0 → IsPruning (take k nodes) (drop k nodes) kept needs
      → IsPruned inputs gate nodes wanted kept
  pruning_done nodes k kept needs e p =
      pruning_ends nodes kept needs (subst (λ (n : ℕ). IsPruning (take n nodes) (drop n nodes) kept needs) e p)

-- what is kept is in order, and of the region
pub pruned_ordered : (N : NetLists) (b : Before) (s literals : ℕ) (wires : List Wire) (gate : ℕ → ℕ → Gate) (nodes : List ℕ) (wanted : List Bool) (kept : List ℕ)
    → IsOrdered N b s literals wires gate nodes → IsPruned (inputs N b.inside s wires) (λ y. gate (y % s) (y / s)) nodes wanted kept
    → IsOrdered N b s literals wires gate kept
pruned_ordered N b s literals wires gate nodes wanted kept ordered pruned =
    record { passing = pruned.passing; here = λ y m. ordered.here y (pruned.within y m) }
