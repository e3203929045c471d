-- What a step keeps of one end of a search.
use Rattle.std.proofs.Common.{◌≡◌, ℕ, suc, ◌+◌, ◌-◌, ◌*◌, ◌<◌, ◌≤◌, List, [], ◌∷◌, ◌++◌, Option, None, Some, length, get_or, map, inl, inr, refl, sym, ap, subst, ◌∙◌, arith, length-append}
use Rattle.std.specs.Prelude.{All, Contains}
use Rattle.std.proofs.Math.ListN.{length-map}
use Rattle.std.proofs.lemmas.Bool.{cases_eq, cases_lt}
use Rattle.std.proofs.lemmas.List.{get_or_append_left, get_or_push, map_push, get_or-map}
use Rattle.std.proofs.lemmas.List.Elements.{All-nil, All-cons, All-push, Contains-append_left, Contains-append_right, Contains-push, Contains-get_or}
use Rattle.dl_base.specs.Paths.{IsDistinct}
use Rattle.dl_base.proofs.Distinct.{no_longer, distinct_push}
use Rattle.dl_sup.specs.declared.slot.Slot.{Slot}
use Rattle.dl_sup.specs.declared.front.Front.{Front}
use Rattle.dl_sup.specs.declared.slot.Way.{Way}
use Rattle.dl_sup.specs.declared.slot.Way.TheVariants.{Down, Up}
use Rattle.dl_sup.specs.HeadLists.{HeadLists, head_of}
use Rattle.dl_sup.specs.Slots.{near, far, older, slot_at, no_slot, IsAlive, live, IsChained}
use Rattle.dl_sup.specs.Searching.{items_of, item_at, from_at, Leads, IsFront, work, Begins, Turns, Follows, Meets}
use Rattle.dl_sup.proofs.Slots.{live_has}

-- a pair leads along its way
pub alive_leads : (way : Way) (slots : List Slot) (t : ℕ) → IsAlive slots t → Leads way (live slots) (near way (slot_at slots t)) (far way (slot_at slots t))
alive_leads Down slots t a = live_has slots t a
alive_leads Up slots t a = live_has slots t a

module _ (way : Way) (slots : List Slot) (heads : HeadLists) (chained : IsChained way slots heads) where
  begun : (item : ℕ) → IsFront way slots (record { visits = (item, 0) ∷ []; next = 0; cursor = head_of heads item })
  begun item = record {
    started = omega arith;
    turned = omega arith;
    traced = λ k above below. absurd (omega (arith, above, below));
    distinct = λ i j d before within. absurd (omega (arith, before, within));
    within = All-cons (Contains (item ∷ map (far way) slots)) item [] (0, omega arith, refl) (All-nil (Contains (item ∷ map (far way) slots)));
    passed = λ k t before. absurd (omega (arith, before));
    current = λ t left from a e. absurd (omega (arith, from, subst (λ x. t < head_of heads x) e (chained.begins t a)));
    short = chained.short item;
    chain = λ t left e. chained.exact item t e;
  }

  pub front_begun : (item : ℕ) (f : Front) → Begins item heads f → IsFront way slots f
  front_begun item f b =
      let path : f ≡ record { visits = (item, 0) ∷ []; next = 0; cursor = head_of heads item } = λ i. record { visits = b.visits i; next = b.next i; cursor = b.cursor i } in
      subst (IsFront way slots) (sym path) (begun item)

  module _ (f : Front) (h : IsFront way slots f) (left : f.next < length f.visits) where
    within_bounds : f.next < length slots + 1
    within_bounds =
        let all = no_longer (items_of f.visits) (item_at f.visits 0 ∷ map (far way) slots) h.distinct h.within in
        omega (arith, all, length-map slots (far way), length-map f.visits (λ (v : ℕ × ℕ). v.0), left)

    turned : (cursor : ℕ) → (f.next + 1 < length f.visits → cursor ≡ head_of heads (item_at f.visits (f.next + 1))) → (length f.visits ≤ f.next + 1 → cursor ≡ 0)
        → f.cursor ≡ 0 → IsFront way slots (record { visits = f.visits; next = f.next + 1; cursor = cursor })
    turned cursor begins past done = record {
      started = h.started;
      turned = omega (arith, left);
      traced = h.traced;
      distinct = h.distinct;
      within = h.within;
      passed = λ k t before a e.
          elim (cases_lt k f.next) [
            | inl lt ↦ h.passed k t lt a e
            | inr ge ↦
                let last : k ≡ f.next = omega (arith, before, ge) in
                h.current t left (omega (arith, done)) a (e ∙ ap (item_at f.visits) last)
          ];
      current = λ t more from a e.
          absurd (omega (arith, from, begins more, subst (λ x. t < head_of heads x) e (chained.begins t a)));
      short =
          elim (cases_lt (f.next + 1) (length f.visits)) [
            | inl lt ↦ subst (λ n. n ≤ length slots) (sym (begins lt)) (chained.short (item_at f.visits (f.next + 1)))
            | inr ge ↦ omega (arith, past ge)
          ];
      chain = λ t more e. chained.exact (item_at f.visits (f.next + 1)) t (sym (begins more) ∙ e);
    }

    pub front_turned : (g : Front) → Turns heads f g → f.cursor ≡ 0 → IsFront way slots g × (work slots g < work slots f)
    front_turned g t done =
        let path : g ≡ record { visits = f.visits; next = f.next + 1; cursor = g.cursor } = λ i. record { visits = t.visits i; next = t.next i; cursor = g.cursor } in
        let same : IsFront way slots (record { visits = f.visits; next = f.next + 1; cursor = g.cursor }) =
        turned g.cursor (subst (λ (x : Front). x.next < length x.visits → x.cursor ≡ head_of heads (item_at x.visits x.next)) path t.cursor)
        (subst (λ (x : Front). length x.visits ≤ x.next → x.cursor ≡ 0) path t.past) done in
        (subst (IsFront way slots) (sym path) same, subst (λ (x : Front). work slots x < work slots f) (sym path) (fewer (length slots + 1 - (f.next + 1)) (length slots + 1 - f.next) (length slots + 1) g.cursor f.cursor (omega (arith, within_bounds)) (omega (arith, same.short))))
      where
        fewer : (a b n c d : ℕ) → b ≡ a + 1 → c < n → a * n + c < b * n + d
        fewer a b n c d e lt = rw e (omega arith)

    module _ (at : ℕ) (here : f.cursor ≡ suc at) where
      at_within : at < length slots
      at_within = omega (arith, here, h.short)

      current_after : (visits : List (ℕ × ℕ)) → (item_at visits f.next ≡ item_at f.visits f.next) → ((x : ℕ) → Contains (items_of f.visits) x → Contains (items_of visits) x)
          → (IsAlive slots at → Contains (items_of visits) (far way (slot_at slots at))) → (t : ℕ) → older way (slot_at slots at) ≤ t → IsAlive slots t
          → near way (slot_at slots t) ≡ item_at visits f.next → Contains (items_of visits) (far way (slot_at slots t))
      current_after visits stays grown handled t from a e =
          elim (cases_lt t at) [
            | inl lt ↦ absurd (omega (arith, from, chained.goes_on at t lt at_within a (e ∙ stays ∙ sym (h.chain at left here))))
            | inr ge ↦ elim (cases_eq t at) [
              | inl same ↦ subst (λ x. Contains (items_of visits) (far way (slot_at slots x))) (sym same) (handled (subst (IsAlive slots) same a))
              | inr differs ↦ grown (far way (slot_at slots t)) (h.current t left (omega (arith, here, ge, differs)) a (e ∙ stays))
            ]
          ]

      older_chain : (t : ℕ) → older way (slot_at slots at) ≡ suc t → near way (slot_at slots t) ≡ item_at f.visits f.next
      older_chain t e = chained.same at t at_within e ∙ h.chain at left here

      passed_over : (IsAlive slots at → Contains (items_of f.visits) (far way (slot_at slots at)))
          → IsFront way slots (record { visits = f.visits; next = f.next; cursor = older way (slot_at slots at) })
      passed_over handled = record {
        started = h.started;
        turned = h.turned;
        traced = h.traced;
        distinct = h.distinct;
        within = h.within;
        passed = h.passed;
        current = λ t more from a e. current_after f.visits refl (λ x m. m) handled t from a e;
        short = omega (arith, chained.falls at at_within, at_within);
        chain = λ t more e. older_chain t e;
      }

      met : (item : ℕ) → item ≡ far way (slot_at slots at) → IsAlive slots at → (¬ Contains (items_of f.visits) item)
          → IsFront way slots (record { visits = f.visits ++ (item, f.next) ∷ []; next = f.next; cursor = older way (slot_at slots at) })
      met item is a new =
          let es = f.visits in
          let all = es ++ (item, f.next) ∷ [] in
          let items : items_of all ≡ items_of es ++ item ∷ [] = map_push (λ (v : ℕ × ℕ). v.0) es (item, f.next) in
          let grown = λ (x : ℕ) (m : Contains (items_of es) x). subst (λ (l : List ℕ). Contains l x) (sym items) (Contains-append_left (items_of es) (item ∷ []) x m) in
          let newest : Contains (items_of all) item = subst (λ (l : List ℕ). Contains l item) (sym items) (Contains-push (items_of es) item) in
          let stays = λ (k : ℕ) (lt : k < length es). ap (λ (v : ℕ × ℕ). v.0) (get_or_append_left es ((item, f.next) ∷ []) (0, 0) k lt) in
          let longer : length all ≡ length es + 1 = length-append es ((item, f.next) ∷ []) in
          record {
            started = omega (arith, longer);
            turned = omega (arith, longer, h.turned);
            traced = λ k above below.
                elim (cases_lt k (length es)) [
                  | inl lt ↦ traced_front k above lt
                  | inr ge ↦ traced_last k (omega (arith, longer, below, ge))
                ];
            distinct = subst IsDistinct (sym items) (distinct_push (items_of es) item h.distinct new);
            within =
                subst (λ x. All (Contains (x ∷ map (far way) slots)) (items_of all)) (sym (stays 0 h.started))
                (subst (All (Contains (item_at es 0 ∷ map (far way) slots))) (sym items)
                (All-push (Contains (item_at es 0 ∷ map (far way) slots)) (items_of es) item h.within
                (Contains-append_right (item_at es 0 ∷ []) (map (far way) slots) item is_end)));
            passed = λ k t before b e. grown (far way (slot_at slots t)) (h.passed k t before b (e ∙ stays k (omega (arith, before, left))));
            current = λ t more from b e. current_after all (stays f.next left) grown (λ _. subst (Contains (items_of all)) is newest) t from b e;
            short = omega (arith, chained.falls at at_within, at_within);
            chain = λ t more e. older_chain t e ∙ sym (stays f.next left);
          }
        where
          is_end : Contains (map (far way) slots) item
          is_end =
              subst (Contains (map (far way) slots)) (get_or-map (far way) slots at no_slot item at_within ∙ sym is)
              (Contains-get_or (map (far way) slots) at item (subst (λ n. at < n) (sym (length-map slots (far way))) at_within))

          traced_front : (k : ℕ) → 0 < k → k < length f.visits
              → (from_at (f.visits ++ (item, f.next) ∷ []) k < k)
              × Leads way (live slots) (item_at (f.visits ++ (item, f.next) ∷ []) (from_at (f.visits ++ (item, f.next) ∷ []) k)) (item_at (f.visits ++ (item, f.next) ∷ []) k)
          traced_front k above lt =
              let was = h.traced k above lt in
              let same = λ (j : ℕ) (lt : j < length f.visits). get_or_append_left f.visits ((item, f.next) ∷ []) (0, 0) j lt in
              let from : from_at (f.visits ++ (item, f.next) ∷ []) k ≡ from_at f.visits k = ap (λ (v : ℕ × ℕ). v.1) (same k lt) in (
                subst (λ n. n < k) (sym from) was.0,
                subst (λ n. Leads way (live slots) (item_at (f.visits ++ (item, f.next) ∷ []) n) (item_at (f.visits ++ (item, f.next) ∷ []) k)) (sym from)
                    (subst (λ x. Leads way (live slots) x (item_at (f.visits ++ (item, f.next) ∷ []) k)) (sym (ap (λ (v : ℕ × ℕ). v.0) (same (from_at f.visits k) (omega (arith, was.0, lt)))))
                    (subst (λ x. Leads way (live slots) (item_at f.visits (from_at f.visits k)) x) (sym (ap (λ (v : ℕ × ℕ). v.0) (same k lt))) was.1)),
              )

          traced_last : (k : ℕ) → length f.visits ≡ k
              → (from_at (f.visits ++ (item, f.next) ∷ []) k < k)
              × Leads way (live slots) (item_at (f.visits ++ (item, f.next) ∷ []) (from_at (f.visits ++ (item, f.next) ∷ []) k)) (item_at (f.visits ++ (item, f.next) ∷ []) k)
          traced_last k end =
              let last : get_or (f.visits ++ (item, f.next) ∷ []) k (0, 0) ≡ (item, f.next) = get_or_push f.visits (item, f.next) (0, 0) k end in
              let from : from_at (f.visits ++ (item, f.next) ∷ []) k ≡ f.next = ap (λ (v : ℕ × ℕ). v.1) last in (
                subst (λ n. n < k) (sym from) (omega (arith, left, end)),
                subst (λ n. Leads way (live slots) (item_at (f.visits ++ (item, f.next) ∷ []) n) (item_at (f.visits ++ (item, f.next) ∷ []) k)) (sym from)
                    (subst (λ x. Leads way (live slots) x (item_at (f.visits ++ (item, f.next) ∷ []) k)) (sym (ap (λ (v : ℕ × ℕ). v.0) (get_or_append_left f.visits ((item, f.next) ∷ []) (0, 0) f.next left)))
                    (subst (λ x. Leads way (live slots) (item_at f.visits f.next) x) (sym is ∙ sym (ap (λ (v : ℕ × ℕ). v.0) last))
                    (subst (λ x. Leads way (live slots) x (far way (slot_at slots at))) (h.chain at left here) (alive_leads way slots at a)))),
              )

      follows : (m : Option ℕ) (g : Front) → g.next ≡ f.next → g.cursor ≡ older way (slot_at slots at) → Meets way (slot_at slots at) f g m → IsFront way slots g
      follows None g next cursor m =
          let path : g ≡ record { visits = f.visits; next = f.next; cursor = older way (slot_at slots at) } = λ i. record { visits = m.0 i; next = next i; cursor = cursor i } in
          subst (IsFront way slots) (sym path) (passed_over m.1)
      follows (Some item) g next cursor m =
          let path : g ≡ record { visits = f.visits ++ (item, f.next) ∷ []; next = f.next; cursor = older way (slot_at slots at) } = λ i. record { visits = m.0 i; next = next i; cursor = cursor i } in
          subst (IsFront way slots) (sym path) (met item m.2 m.1 m.3)

      pub front_followed : (m : Option ℕ) (g : Front) → Follows way (slot_at slots at) f g m → IsFront way slots g × (work slots g < work slots f)
      front_followed m g t = (
        follows m g t.next t.cursor t.meets,
        subst (λ n. (length slots + 1 - n) * (length slots + 1) + g.cursor < work slots f) (sym t.next)
            (less ((length slots + 1 - f.next) * (length slots + 1)) g.cursor f.cursor (omega (arith, t.cursor, here, chained.falls at at_within))),
      )
        where
          less : (a x y : ℕ) → x < y → a + x < a + y
          less a x y lt = omega arith
