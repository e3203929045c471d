-- Lists that stand one behind another.
use Rattle.std.proofs.Common.{◌≡◌, ◌≢◌, ℕ, ◌+◌, ◌<◌, ◌≤◌, List, [], ◌∷◌, ◌++◌, length, get_or, take, drop, set, map, refl, sym, ap, subst, ◌∙◌, arith, inl, inr, length-append, get_or-set_same, get_or-set_other}
use Rattle.std.specs.Prelude.{All}
use Rattle.std.proofs.lemmas.List.Elements.{All-head, All-tail}
use Rattle.std.proofs.Math.ListN.{length-set, get_or-append}
use Rattle.std.proofs.lemmas.Bool.{cases_eq, cases_lt}
use Rattle.std.proofs.lemmas.List.{get_or-take, get_or-drop, get_or_default, get_or_past, get_or_push, length-take, length-drop, map-set, set-set, drop-set-add, take_more_set, get_or-map}
use Rattle.std.proofs.lemmas.Grind.{same_number_lists}
use Rattle.dl_rows.specs.declared.packed_rows.Span.{Span}
use Rattle.dl_rows.specs.Packed.{no_span, in_span, span_at, room_end, ArePacked}
use Rattle.dl_rows.specs.Tables.{list_of}
use Rattle.dl_rows.proofs.TableLemmas.{map_changed}

-- ---- the numbers of one list

pub in_span_length : (items : List ℕ) (s : Span) → s.start + s.len ≤ length items → length (in_span items s) ≡ s.len
in_span_length items s h = omega (arith, length-take s.len (drop s.start items), length-drop s.start items, h)

in_span_place : (items : List ℕ) (s : Span) (k : ℕ) → k < s.len → get_or (in_span items s) k 0 ≡ get_or items (s.start + k) 0
in_span_place items s k lt = get_or-take s.len (drop s.start items) k 0 lt ∙ get_or-drop s.start items k 0

-- a list sees its own places alone
in_span_agrees : (items items' : List ℕ) (s : Span) → s.start + s.len ≤ length items → length items' ≡ length items
    → ((k : ℕ) → k < s.len → get_or items' (s.start + k) 0 ≡ get_or items (s.start + k) 0) → in_span items' s ≡ in_span items s
in_span_agrees items items' s h long same =
    let long' : s.start + s.len ≤ length items' = omega (arith, h, long) in
    same_number_lists (in_span items' s) (in_span items s) (in_span_length items' s long' ∙ sym (in_span_length items s h))
    (λ k lt. let less : k < s.len = omega (arith, lt, in_span_length items' s long') in
    in_span_place items' s k less ∙ same k less ∙ sym (in_span_place items s k less))

-- one number more behind the last
pub in_span_more : (items : List ℕ) (s : Span) (x : ℕ) → s.start + s.len < length items
    → in_span (set items (s.start + s.len) x) (record { start = s.start; len = s.len + 1 }) ≡ in_span items s ++ x ∷ []
in_span_more items s x h =
    ap (take (s.len + 1)) (drop-set-add s.start items s.len x) ∙ take_more_set (drop s.start items) s.len x (omega (arith, length-drop s.start items, h))

-- ---- what stands where

module _ (spans : List Span) (all : ℕ) (p : ArePacked spans all) (h : ℕ) (within : h < length spans) where
  room_is : h + 1 < length spans → room_end spans h all ≡ (span_at spans (h + 1)).start
  room_is lt = ap (λ (s : Span). s.start) (get_or_default spans (h + 1) (record { start = all; len = 0 }) no_span lt)

  room_last : length spans ≤ h + 1 → room_end spans h all ≡ all
  room_last past = ap (λ (s : Span). s.start) (get_or_past spans (h + 1) (record { start = all; len = 0 }) past)

  pub room_within : room_end spans h all ≤ all
  room_within =
      elim (cases_lt (h + 1) (length spans)) [
        | inl lt ↦ omega (arith, room_is lt, p.within (h + 1))
        | inr past ↦ omega (arith, room_last past)
      ]

  -- the room ends before each list behind
  room_before : (j : ℕ) → h < j → j < length spans → room_end spans h all ≤ (span_at spans j).start
  room_before j behind lt =
      elim (cases_eq j (h + 1)) [
        | inl e ↦ let next : room_end spans h all ≡ (span_at spans (h + 1)).start = room_is (omega (arith, e, lt)) in
            subst (λ k. room_end spans h all ≤ (span_at spans k).start) (sym e) (omega (arith, next))
        | inr d ↦ omega (arith, room_is (omega (arith, behind, lt)), p.rising (h + 1) j (omega (arith, behind, d)) lt)
      ]

  module _ (s : Span) (start : s.start ≡ (span_at spans h).start) (fits : s.start + s.len ≤ room_end spans h all) where
    changed_here : span_at (set spans h s) h ≡ s
    changed_here = get_or-set_same spans h s no_span within

    changed_other : (i : ℕ) → i ≢ h → span_at (set spans h s) i ≡ span_at spans i
    changed_other i d = get_or-set_other spans h i s no_span d

    rising_here : (j : ℕ) → h < j → j < length spans → (span_at (set spans h s) h).start + (span_at (set spans h s) h).len ≤ (span_at (set spans h s) j).start
    rising_here j behind lt =
        let here : span_at (set spans h s) h ≡ s = changed_here in
        let there : span_at (set spans h s) j ≡ span_at spans j = changed_other j (λ e. absurd (omega (arith, e, behind))) in
        rw here (rw there (omega (arith, fits, room_before j behind lt)))

    -- a list takes another length in its room
    pub packed_changed : ArePacked (set spans h s) all
    packed_changed = record {
      rising = λ i j less lt.
          let lt' : j < length spans = omega (arith, lt, length-set spans h s) in
          elim (cases_eq i h) [
            | inl e ↦
                subst (λ k. (span_at (set spans h s) k).start + (span_at (set spans h s) k).len ≤ (span_at (set spans h s) j).start) (sym e)
                (rising_here j (omega (arith, e, less)) lt')
            | inr d ↦
                let there : span_at (set spans h s) i ≡ span_at spans i = changed_other i d in
                elim (cases_eq j h) [
                  | inl e ↦
                      let here : span_at (set spans h s) j ≡ s = ap (span_at (set spans h s)) e ∙ changed_here in
                      let was : (span_at spans j).start ≡ s.start = ap (λ k. (span_at spans k).start) e ∙ sym start in
                      rw there (rw here (omega (arith, p.rising i j less lt', was)))
                  | inr e ↦
                      let other : span_at (set spans h s) j ≡ span_at spans j = changed_other j e in
                      rw there (rw other (p.rising i j less lt'))
                ]
          ];
      within = λ i.
          elim (cases_eq i h) [
            | inl e ↦
                let here : span_at (set spans h s) i ≡ s = ap (span_at (set spans h s)) e ∙ changed_here in
                rw here (omega (arith, fits, room_within))
            | inr d ↦
                let there : span_at (set spans h s) i ≡ span_at spans i = changed_other i d in
                rw there (p.within i)
          ];
    }

-- ---- one list is written, and all others stay

module _ (spans : List Span) (items items' : List ℕ) (p : ArePacked spans (length items)) (h : ℕ) (within : h < length spans)
    (long : length items' ≡ length items) (below : (k : ℕ) → k < (span_at spans h).start → get_or items' k 0 ≡ get_or items k 0)
    (above : (k : ℕ) → room_end spans h (length items) ≤ k → get_or items' k 0 ≡ get_or items k 0) where
  others_stay : (i : ℕ) → i < length spans → i ≢ h → in_span items' (span_at spans i) ≡ in_span items (span_at spans i)
  others_stay i lt d =
      in_span_agrees items items' (span_at spans i) (p.within i) long
      (λ k less. elim (cases_lt i h) [
        | inl before ↦ below ((span_at spans i).start + k) (omega (arith, less, p.rising i h before within))
        | inr behind ↦
            above ((span_at spans i).start + k) (omega (arith, room_before spans (length items) p h within i (omega (arith, behind, d)) lt))
      ])

  pub packed_written : (s : Span) (y : List ℕ) → in_span items' s ≡ y → map (in_span items') (set spans h s) ≡ set (map (in_span items) spans) h y
  packed_written s y is =
      map_changed (in_span items) (in_span items') (set spans h s) h no_span y (omega (arith, within, length-set spans h s))
      (ap (in_span items') (get_or-set_same spans h s no_span within) ∙ is)
      (λ i lt d. ap (in_span items') (get_or-set_other spans h i s no_span d) ∙ others_stay i (omega (arith, lt, length-set spans h s)) d
      ∙ sym (ap (in_span items) (get_or-set_other spans h i s no_span d)))
      ∙ ap (λ (ls : List (List ℕ)). set ls h y) (map-set (in_span items) spans h s)
      ∙ set-set (map (in_span items) spans) h (in_span items s) y

-- ---- lists that are made, and empty

module _ (spans : List Span) (all more : ℕ) (p : ArePacked spans all) (room : all ≤ more) where
  pushed_last : (i : ℕ) → i ≡ length spans → span_at (spans ++ record { start = all; len = 0 } ∷ []) i ≡ record { start = all; len = 0 }
  pushed_last i e = get_or_push spans (record { start = all; len = 0 }) no_span i (sym e)

  pushed_other : (i : ℕ) → i < length spans → span_at (spans ++ record { start = all; len = 0 } ∷ []) i ≡ span_at spans i
  pushed_other i lt = get_or-append spans (record { start = all; len = 0 } ∷ []) no_span i lt

  pushed_long : length (spans ++ record { start = all; len = 0 } ∷ []) ≡ length spans + 1
  pushed_long = length-append spans (record { start = all; len = 0 } ∷ [])

  pushed_past : (i : ℕ) → length spans < i → span_at (spans ++ record { start = all; len = 0 } ∷ []) i ≡ no_span
  pushed_past i past = get_or_past (spans ++ record { start = all; len = 0 } ∷ []) i no_span (omega (arith, pushed_long, past))

  -- one list more, which is empty and has room for some numbers
  pub packed_pushed : ArePacked (spans ++ record { start = all; len = 0 } ∷ []) more
  packed_pushed = record {
    rising = λ i j less lt.
        let first : i < length spans = omega (arith, less, lt, pushed_long) in
        let there : span_at (spans ++ record { start = all; len = 0 } ∷ []) i ≡ span_at spans i = pushed_other i first in
        elim (cases_eq j (length spans)) [
          | inl e ↦
              let last : span_at (spans ++ record { start = all; len = 0 } ∷ []) j ≡ record { start = all; len = 0 } = pushed_last j e in
              rw there (rw last (p.within i))
          | inr d ↦
              let before : j < length spans = omega (arith, lt, pushed_long, d) in
              let other : span_at (spans ++ record { start = all; len = 0 } ∷ []) j ≡ span_at spans j = pushed_other j before in
              rw there (rw other (p.rising i j less before))
        ];
    within = λ i.
        elim (cases_eq i (length spans)) [
          | inl e ↦
              let last : span_at (spans ++ record { start = all; len = 0 } ∷ []) i ≡ record { start = all; len = 0 } = pushed_last i e in
              rw last (omega (arith, room))
          | inr d ↦ elim (cases_lt i (length spans)) [
            | inl lt ↦
                let there : span_at (spans ++ record { start = all; len = 0 } ∷ []) i ≡ span_at spans i = pushed_other i lt in
                rw there (omega (arith, room, p.within i))
            | inr past ↦
                let none : span_at (spans ++ record { start = all; len = 0 } ∷ []) i ≡ no_span = pushed_past i (omega (arith, past, d)) in
                rw none (omega arith)
          ]
        ];
  }

-- lists that take up no places
pub none_have : (items : List ℕ) (spans : List Span) (counts : List ℕ) → All (λ s. s.len ≡ 0) spans → length spans ≡ length counts
    → map (in_span items) spans ≡ map (λ _. []) counts
none_have items [] [] none long = refl
none_have items [] (c ∷ cs) none long = absurd (omega (arith, long))
none_have items (s ∷ ss) [] none long = absurd (omega (arith, long))
none_have items (s ∷ ss) (c ∷ cs) none long =
    λ i. take (All-head (λ (t : Span). t.len ≡ 0) s ss none i) (drop s.start items)
    ∷ none_have items ss cs (All-tail (λ (t : Span). t.len ≡ 0) s ss none) (omega (arith, long)) i

-- ---- what a number more makes of one list

module _ (spans : List Span) (items : List ℕ) (p : ArePacked spans (length items)) (h : ℕ) (within : h < length spans) (span : Span)
    (read : span ≡ get_or spans h span) where
  at_hand : span_at spans h ≡ span
  at_hand = get_or_default spans h no_span span within ∙ sym read

  list_at_hand : list_of (map (in_span items) spans) h ≡ in_span items span
  list_at_hand = get_or-map (in_span items) spans h span [] within ∙ ap (in_span items) (sym read)

  starts : span.start ≡ (span_at spans h).start
  starts = ap (λ (s : Span). s.start) (sym at_hand)

  module _ (x : ℕ) (room : span.start + span.len < room_end spans h (length items)) where
    pub appended_packed : ArePacked (set spans h (record { start = span.start; len = span.len + 1 })) (length (set items (span.start + span.len) x))
    appended_packed =
        subst (ArePacked (set spans h (record { start = span.start; len = span.len + 1 }))) (sym (length-set items (span.start + span.len) x))
        (packed_changed spans (length items) p h within (record { start = span.start; len = span.len + 1 }) starts (omega (arith, room)))

    pub appended_lists : map (in_span (set items (span.start + span.len) x)) (set spans h (record { start = span.start; len = span.len + 1 }))
        ≡ set (map (in_span items) spans) h (list_of (map (in_span items) spans) h ++ x ∷ [])
    appended_lists =
        packed_written spans items (set items (span.start + span.len) x) p h within (length-set items (span.start + span.len) x)
        (λ k less. get_or-set_other items (span.start + span.len) k x 0 (λ e. absurd (omega (arith, e, less, starts))))
        (λ k more. get_or-set_other items (span.start + span.len) k x 0 (λ e. absurd (omega (arith, e, more, room))))
        (record { start = span.start; len = span.len + 1 }) (list_of (map (in_span items) spans) h ++ x ∷ [])
        (in_span_more items span x (omega (arith, room, room_within spans (length items) p h within)) ∙ ap (λ (xs : List ℕ). xs ++ x ∷ []) (sym list_at_hand))
