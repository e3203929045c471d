-- Pages one after another.
use Rattle.dl_pages.specs.Pages.{PageItems, empty_page, parts, marks, flags, items_of, owned_of, KeepsPages, Filled}
use Rattle.dl_pages.specs.KeptPages.{IsKept}
use Rattle.dl_pages.proofs.PartLemmas.{joined, filled_length, filled_bound, part_length, part_within, joined_at, joined_set, joined_push, filled_push, filled_set, filled_take, joined_take}
use Rattle.std.proofs.Common.{◌≡◌, ℕ, zero, suc, ◌+◌, ◌-◌, ◌*◌, ◌^◌, ◌<◌, ◌≤◌, Bool, true, false, List, [], ◌∷◌, ◌++◌, refl, length, get_or, set, take, map, replicate, sym, ap, ◌∙◌, subst, ap₂, arith, inl, inr, get_or-set_same, get_or-set_other, append_assoc, ◌≢◌}
use Rattle.std.proofs.Math.ListN.{length-map, length-set}
use Rattle.std.proofs.Math.Seq.{map-set_same}
use Rattle.std.proofs.lemmas.Bool.{cases_eq, cases_lt}
use Rattle.std.proofs.lemmas.List.{get_or-map, map-set, get_or_past, get_or-replicate, length-replicate, replicate_more, length_push, take-map, nil_from_length}

none_front : (n : ℕ) (b : Bool) (ys : List Bool) → b ≡ false → ((i : ℕ) → get_or ys i false ≡ false) → (i : ℕ) → get_or (replicate n b ++ ys) i false ≡ false
none_front zero b ys e h i = h i
none_front (suc n) b ys e h zero = e
none_front (suc n) b ys e h (suc i) = none_front n b ys e h i

-- only a place of the list is owned
pub true_within : (owned : List Bool) (at : ℕ) → get_or owned at false ≡ true → at < length owned
true_within owned at h =
    elim (cases_lt at (length owned)) [
      | inl lt ↦ lt
      | inr ge ↦ let past : get_or owned at false ≡ false = get_or_past owned at false ge in absurd (cc)
    ]

raise_front : (n m : ℕ) (b c : Bool) (ys zs : List Bool) → n ≡ m → (b ≡ true → c ≡ true)
    → ((i : ℕ) → get_or ys i false ≡ true → get_or zs i false ≡ true) → (i : ℕ) → get_or (replicate n b ++ ys) i false ≡ true
    → get_or (replicate m c ++ zs) i false ≡ true
raise_front zero zero b c ys zs e up h i at = h i at
raise_front zero (suc m) b c ys zs e up h i at = absurd (omega (arith, e))
raise_front (suc n) zero b c ys zs e up h i at = absurd (omega (arith, e))
raise_front (suc n) (suc m) b c ys zs e up h zero at = up at
raise_front (suc n) (suc m) b c ys zs e up h (suc i) at = raise_front n m b c ys zs (omega (arith, e)) up h i at

items_none : (T : Type 0) (m : ℕ) → items_of {T = T} (replicate m empty_page) ≡ []
items_none T zero = refl
items_none T (suc m) = items_none T m

owned_none : (T : Type 0) (m : ℕ) → owned_of {T = T} (replicate m empty_page) ≡ []
owned_none T zero = refl
owned_none T (suc m) = owned_none T m

filled_none : (T : Type 0) (m : ℕ) (n : ℕ) → n ≡ 0 → Filled (parts {T = T} (replicate m empty_page)) n
filled_none T zero n e = e
filled_none T (suc m) n e = (omega (arith, e), filled_none T m (n - 64) (omega (arith, e)))

flags_none : (T : Type 0) (m k : ℕ) → get_or (flags {T = T} (replicate m empty_page)) k true ≡ true
flags_none T zero k = refl
flags_none T (suc m) zero = refl
flags_none T (suc m) (suc k) = flags_none T m k

module _ {T : Type 0} where
  -- ---- marks

  pub marks_filled : (pages : List (PageItems T)) (n : ℕ) → Filled (parts pages) n → Filled (map marks pages) n
  marks_filled [] n h = h
  marks_filled (p ∷ ps) n h = (length-replicate (length p.items) p.owned ∙ h.0, marks_filled ps (n - 64) h.1)

  mark_at : (pages : List (PageItems T)) (k r : ℕ) → r < length (get_or (parts pages) k [])
      → get_or (get_or (map marks pages) k []) r false ≡ get_or (flags pages) k true
  mark_at [] k r h = absurd (omega (arith, h))
  mark_at (p ∷ ps) zero r h = get_or-replicate (length p.items) r p.owned false h
  mark_at (p ∷ ps) (suc k) r h = mark_at ps k r h

  -- a place may be written where its page is owned
  pub owned_at : (pages : List (PageItems T)) (n at k r : ℕ) → Filled (parts pages) n → at ≡ 64 * k + r → r < 64 → at < n
      → get_or (owned_of pages) at false ≡ get_or (flags pages) k true
  owned_at pages n at k r h e small lt =
      joined_at (map marks pages) n at k r false (marks_filled pages n h) e small lt
      ∙ mark_at pages k r (part_within (parts pages) n at k r h e small lt)

  pub none_owned : (pages : List (PageItems T)) → ((k : ℕ) → get_or (flags pages) k false ≡ false) → (at : ℕ) → get_or (owned_of pages) at false ≡ false
  none_owned [] h at = refl
  none_owned (p ∷ ps) h at = none_front (length p.items) p.owned (owned_of ps) (h 0) (none_owned ps (λ k. h (suc k))) at

  -- what was owned still is
  pub owned_up : (old new : List (PageItems T)) → parts new ≡ parts old
      → ((k : ℕ) → get_or (flags old) k true ≡ true → get_or (flags new) k true ≡ true)
      → (at : ℕ) → get_or (owned_of old) at false ≡ true → get_or (owned_of new) at false ≡ true
  owned_up [] new e up at h = absurd (cc)
  owned_up (p ∷ ps) [] e up at h = absurd (cc)
  owned_up (p ∷ ps) (q ∷ qs) e up at h =
      let same : p.items ≡ q.items = cc in
      let rest : parts qs ≡ parts ps = cc in
      raise_front (length p.items) (length q.items) p.owned q.owned (owned_of ps) (owned_of qs) (ap length same) (up 0)
      (owned_up ps qs rest (λ k. up (suc k))) at h

  pub items_more : (pages : List (PageItems T)) (m : ℕ) → items_of (pages ++ replicate m empty_page) ≡ items_of pages
  items_more [] m = items_none T m
  items_more (p ∷ ps) m = ap (λ l. p.items ++ l) (items_more ps m)

  pub appended_more : (pages at new : List (PageItems T)) (m : ℕ) (p : PageItems T) → at ≡ pages ++ replicate m empty_page → p ≡ empty_page → new ≡ at ++ p ∷ []
      → new ≡ pages ++ replicate (m + 1) empty_page
  appended_more pages at new m p e is put =
      put ∙ ap₂ (λ ps q. ps ++ q ∷ []) e is ∙ append_assoc pages (replicate m empty_page) (empty_page ∷ []) ∙ ap (λ ps. pages ++ ps) (replicate_more m empty_page)

  pub owned_more : (pages : List (PageItems T)) (m : ℕ) → owned_of (pages ++ replicate m empty_page) ≡ owned_of pages
  owned_more [] m = owned_none T m
  owned_more (p ∷ ps) m = ap (λ l. marks p ++ l) (owned_more ps m)

  pub filled_more : (pages : List (PageItems T)) (m n : ℕ) → Filled (parts pages) n → Filled (parts (pages ++ replicate m empty_page)) n
  filled_more [] m n h = filled_none T m n h
  filled_more (p ∷ ps) m n h = (h.0, filled_more ps m (n - 64) h.1)

  pub flags_more : (pages : List (PageItems T)) (m k : ℕ) → get_or (flags pages) k true ≡ true → get_or (flags (pages ++ replicate m empty_page)) k true ≡ true
  flags_more [] m k h = flags_none T m k
  flags_more (p ∷ ps) m zero h = h
  flags_more (p ∷ ps) m (suc k) h = flags_more ps m k h

  -- ---- one page becomes another
  module _ (pages : List (PageItems T)) (k : ℕ) (p q : PageItems T) (within : k < length pages) (read : p ≡ get_or pages k p) where
    pub flag_here : get_or (flags pages) k true ≡ p.owned
    flag_here = get_or-map (λ page. page.owned) pages k p true within ∙ ap (λ page. page.owned) (sym read)

    pub part_here : get_or (parts pages) k [] ≡ p.items
    part_here = get_or-map (λ page. page.items) pages k p [] within ∙ ap (λ page. page.items) (sym read)

    mark_here : get_or (map marks pages) k [] ≡ marks p
    mark_here = get_or-map marks pages k p [] within ∙ ap marks (sym read)

    pub flags_same : q.owned ≡ p.owned → flags (set pages k q) ≡ flags pages
    flags_same e = map-set_same (λ page. page.owned) pages k q p (e ∙ ap (λ page. page.owned) read)

    pub parts_same : q.items ≡ p.items → parts (set pages k q) ≡ parts pages
    parts_same e = map-set_same (λ page. page.items) pages k q p (e ∙ ap (λ page. page.items) read)

    pub keeps_set : q.items ≡ p.items → (p.owned ≡ true → q.owned ≡ true) → KeepsPages pages (set pages k q)
    keeps_set e up = record {
      items = parts_same e;
      owned = λ j h.
          elim (cases_eq j k) [
            | inl same ↦ ap (λ i. get_or (flags (set pages k q)) i true) same ∙ ap (λ (bs : List Bool). get_or bs k true) (map-set (λ page. page.owned) pages k q)
                ∙ get_or-set_same (flags pages) k q.owned true (subst (λ i. k < i) (sym (length-map pages (λ page. page.owned))) within)
                ∙ up (sym flag_here ∙ ap (λ i. get_or (flags pages) i true) (sym same) ∙ h)
            | inr differs ↦ ap (λ (bs : List Bool). get_or bs j true) (map-set (λ page. page.owned) pages k q)
                ∙ get_or-set_other (flags pages) k j q.owned true differs ∙ h
          ];
    }

    -- which pages are owned after it
    pub flag_set : (d : Bool) → get_or (flags (set pages k q)) k d ≡ q.owned
    flag_set d =
        ap (λ (bs : List Bool). get_or bs k d) (map-set (λ page. page.owned) pages k q)
        ∙ get_or-set_same (flags pages) k q.owned d (subst (λ i. k < i) (sym (length-map pages (λ page. page.owned))) within)

    pub flag_other : (j : ℕ) → j ≢ k → get_or (flags (set pages k q)) j false ≡ get_or (flags pages) j false
    flag_other j differs =
        ap (λ (bs : List Bool). get_or bs j false) (map-set (λ page. page.owned) pages k q) ∙ get_or-set_other (flags pages) k j q.owned false differs

    pub shared_here : q.owned ≡ false → get_or (flags (set pages k q)) k false ≡ false
    shared_here e = flag_set false ∙ e

    pub shared_next : q.owned ≡ false → ((j : ℕ) → j < k → get_or (flags pages) j false ≡ false) → (j : ℕ) → j < k + 1
        → get_or (flags (set pages k q)) j false ≡ false
    shared_next e before j lt =
        elim (cases_eq j k) [
          | inl same ↦ ap (λ i. get_or (flags (set pages k q)) i false) same ∙ shared_here e
          | inr differs ↦ flag_other j differs ∙ before j (omega (arith, lt, differs))
        ]

    pub owned_set : q.owned ≡ true → get_or (flags (set pages k q)) k true ≡ true
    owned_set e = flag_set true ∙ e

    pub no_more_flags : (q.owned ≡ true → p.owned ≡ true) → (j : ℕ) → get_or (flags (set pages k q)) j false ≡ true → get_or (flags pages) j false ≡ true
    no_more_flags down j h =
        elim (cases_eq j k) [
          | inl same ↦
              ap (λ i. get_or (flags pages) i false) same ∙ get_or-map (λ page. page.owned) pages k p false within ∙ ap (λ page. page.owned) (sym read)
              ∙ down (sym (flag_set false) ∙ ap (λ i. get_or (flags (set pages k q)) i false) (sym same) ∙ h)
          | inr differs ↦ sym (flag_other j differs) ∙ h
        ]

    -- a place in the page
    module _ (n at r : ℕ) (filled : Filled (parts pages) n) (place : at ≡ 64 * k + r) (small : r < 64) (lt : at < n) where
      pub place_in : r < length p.items
      place_in = subst (λ l. r < length l) part_here (part_within (parts pages) n at k r filled place small lt)

      pub value_at : (d : T) → get_or p.items r d ≡ get_or (items_of pages) at d
      value_at d = ap (λ l. get_or l r d) (sym part_here) ∙ sym (joined_at (parts pages) n at k r d filled place small lt)

      pub owned_here : get_or (owned_of pages) at false ≡ p.owned
      owned_here = owned_at pages n at k r filled place small lt ∙ flag_here

    pub length_here : (n r : ℕ) → Filled (parts pages) n → n ≡ 64 * k + r → r < 64 → length p.items ≡ r
    length_here n r filled place small = ap length (sym part_here) ∙ part_length (parts pages) n k r filled place small

    -- an element is put in the place of another
    module _ (n at r : ℕ) (v : T) (filled : Filled (parts pages) n) (place : at ≡ 64 * k + r) (small : r < 64) (lt : at < n) (put : q.items ≡ set p.items r v) (owned : q.owned ≡ p.owned) where
      put_part : parts (set pages k q) ≡ set (parts pages) k (set (get_or (parts pages) k []) r v)
      put_part = map-set (λ page. page.items) pages k q ∙ ap (λ l. set (parts pages) k l) (put ∙ ap (λ l. set l r v) (sym part_here))

      pub items_put : items_of (set pages k q) ≡ set (items_of pages) at v
      items_put = ap joined put_part ∙ joined_set (parts pages) n at k r v filled place small lt

      pub filled_put : Filled (parts (set pages k q)) n
      filled_put =
          subst (λ ps. Filled ps n) (sym put_part)
          (filled_set (parts pages) n k (set (get_or (parts pages) k []) r v) filled (length-set (get_or (parts pages) k []) r v))

      pub owned_put : owned_of (set pages k q) ≡ owned_of pages
      owned_put =
          ap joined
          (map-set_same marks pages k q p
          (ap₂ (λ m b. replicate m b) (ap length put ∙ length-set p.items r v) owned ∙ ap marks read))

    -- an element goes last
    module _ (n r : ℕ) (v : T) (filled : Filled (parts pages) n) (place : n ≡ 64 * k + r) (small : r < 64) (put : q.items ≡ p.items ++ v ∷ []) (was : p.owned ≡ true) (owned : q.owned ≡ true) where
      push_part : parts (set pages k q) ≡ set (parts pages) k (get_or (parts pages) k [] ++ v ∷ [])
      push_part = map-set (λ page. page.items) pages k q ∙ ap (λ l. set (parts pages) k l) (put ∙ ap (λ l. l ++ v ∷ []) (sym part_here))

      in_parts : k < length (parts pages)
      in_parts = subst (λ i. k < i) (sym (length-map pages (λ page. page.items))) within

      in_marks : k < length (map marks pages)
      in_marks = subst (λ i. k < i) (sym (length-map pages marks)) within

      pub items_push : items_of (set pages k q) ≡ items_of pages ++ v ∷ []
      items_push = ap joined push_part ∙ joined_push (parts pages) n k r v filled place small in_parts

      pub filled_pushed : Filled (parts (set pages k q)) (n + 1)
      filled_pushed = subst (λ ps. Filled ps (n + 1)) (sym push_part) (filled_push (parts pages) n k r v filled place small in_parts)

      push_mark : marks q ≡ get_or (map marks pages) k [] ++ true ∷ []
      push_mark =
          ap₂ (λ m b. replicate m b) (ap length put ∙ length_push p.items v) owned
          ∙ sym (replicate_more (length p.items) true)
          ∙ ap (λ b. replicate (length p.items) b ++ true ∷ []) (sym was)
          ∙ ap (λ l. l ++ true ∷ []) (sym mark_here)

      pub owned_push : owned_of (set pages k q) ≡ owned_of pages ++ true ∷ []
      owned_push =
          ap joined (map-set marks pages k q ∙ ap (λ l. set (map marks pages) k l) push_mark)
          ∙ joined_push (map marks pages) n k r true (marks_filled pages n filled) place small in_marks

  -- ---- what is kept of the pages of a list

  pub length_same : (old new : List (PageItems T)) → parts new ≡ parts old → length new ≡ length old
  length_same old new e = sym (length-map new (λ page. page.items)) ∙ ap length e ∙ length-map old (λ page. page.items)

  pub kept_pages : (old new : List (PageItems T)) (len spare : ℕ) → KeepsPages old new → IsKept old len spare → IsKept new len spare
  kept_pages old new len spare keeps kept = record {
    filled = subst (λ ps. Filled ps len) (sym keeps.items) kept.filled;
    small = kept.small;
    room = omega (arith, kept.room, length_same old new keeps.items);
    ready = λ some k lt within. keeps.owned k (kept.ready some k lt within);
  }

  -- where there is no room, no page need be owned
  pub kept_frozen : (pages new : List (PageItems T)) (len used : ℕ) → Filled (parts pages) len → len < 2 ^ 64 → len ≤ 64 * used
      → parts new ≡ parts (take used pages) → IsKept new len 0
  kept_frozen pages new len used filled small le e =
      let filled' : Filled (parts new) len = subst (λ ps. Filled ps len) (sym (e ∙ sym (take-map (λ page. page.items) used pages))) (filled_take (parts pages) len used filled le) in
      record {
        filled = filled';
        small = omega (arith, small);
        room = omega (arith, filled_bound (parts new) len filled', length-map new (λ page. page.items));
        ready = λ some k h within. absurd (omega (arith, some));
      }

  -- pages that have no elements yet
  pub kept_empty : (new : List (PageItems T)) (m room : ℕ) → new ≡ replicate m empty_page → room < 2 ^ 64 → room ≤ 64 * length new → IsKept new 0 room
  kept_empty new m room e small enough = record {
    filled = subst (λ ps. Filled (parts ps) 0) (sym e) (filled_none T m 0 refl);
    small = omega (arith, small);
    room = omega (arith, enough);
    ready = λ some k h lt. ap (λ ps. get_or (flags ps) k true) e ∙ flags_none T m k;
  }

  pub items_empty : (new : List (PageItems T)) (m : ℕ) → new ≡ replicate m empty_page → items_of new ≡ []
  items_empty new m e = ap items_of e ∙ items_none T m

  pub items_frozen : (pages new : List (PageItems T)) (len used : ℕ) → Filled (parts pages) len → len ≤ 64 * used
      → parts new ≡ parts (take used pages) → items_of new ≡ items_of pages
  items_frozen pages new len used filled le e = ap joined (e ∙ sym (take-map (λ page. page.items) used pages)) ∙ joined_take (parts pages) len used filled le

  pub owned_frozen : (pages : List (PageItems T)) (len used : ℕ) → Filled (parts pages) len → len ≤ 64 * used
      → owned_of (take used pages) ≡ owned_of pages
  owned_frozen pages len used filled le = ap joined (sym (take-map marks used pages)) ∙ joined_take (map marks pages) len used (marks_filled pages len filled) le

  -- ---- which places are owned, where only pages without elements changed

  owned_empty : (pages : List (PageItems T)) (n : ℕ) → Filled (parts pages) n → n ≡ 0 → owned_of pages ≡ []
  owned_empty pages n filled none = nil_from_length (owned_of pages) (omega (arith, none, filled_length (map marks pages) n (marks_filled pages n filled)))

  pub owned_first : (old new : List (PageItems T)) (n first : ℕ) → Filled (parts old) n → n < 64 * (first + 1) → parts new ≡ parts old
      → ((k : ℕ) → k ≤ first → get_or (flags new) k false ≡ get_or (flags old) k false) → owned_of new ≡ owned_of old
  owned_first [] [] n first filled lt e same = refl
  owned_first [] (q ∷ qs) n first filled lt e same = absurd (cc)
  owned_first (p ∷ ps) [] n first filled lt e same = absurd (cc)
  owned_first (p ∷ ps) (q ∷ qs) n zero filled lt e same =
      let rest : parts qs ≡ parts ps = cc in
      ap₂ (λ l m. l ++ m)
      (ap₂ (λ m b. replicate m b) (ap length (let items : q.items ≡ p.items = cc in items)) (same 0 (omega arith)))
      (owned_empty qs (n - 64) (subst (λ l. Filled l (n - 64)) (sym rest) filled.1) (omega (arith, lt))
      ∙ sym (owned_empty ps (n - 64) filled.1 (omega (arith, lt))))
  owned_first (p ∷ ps) (q ∷ qs) n (suc first) filled lt e same =
      let rest : parts qs ≡ parts ps = cc in
      ap₂ (λ l m. l ++ m)
      (ap₂ (λ m b. replicate m b) (ap length (let items : q.items ≡ p.items = cc in items)) (same 0 (omega arith)))
      (owned_first ps qs (n - 64) first filled.1 (omega (arith, lt)) rest (λ k le. same (suc k) (omega (arith, le))))
