-- The value of a list in pages.
use Rattle.dl_pages.specs.Paged.{PagedItems, Owns, OwnsNothing, KeepsOwned}
use Rattle.dl_pages.specs.Pages.{PageItems, empty_page, parts, marks, flags, items_of, owned_of, KeepsPages, Filled}
use Rattle.dl_pages.specs.KeptPages.{paged_of, IsKept}
use Rattle.dl_pages.proofs.PartLemmas.{joined, filled_length, filled_bound}
use Rattle.dl_pages.proofs.PageLemmas as page
use Rattle.std.proofs.Common.{◌≡◌, ℕ, ◌+◌, ◌-◌, ◌*◌, ◌^◌, ◌/◌, ◌%◌, ◌<◌, ◌≤◌, true, false, List, [], ◌∷◌, ◌++◌, length, get_or, set, map, sym, ap, ◌∙◌, subst, arith, inl, inr, take, Bool, length-append, replicate}
use Rattle.std.proofs.Math.ListN.{length-map, length-set}
use Rattle.std.proofs.lemmas.Bool.{cases_lt}
use Rattle.std.proofs.lemmas.List.{get_or_past}

module _ {T : Type 0} (pages : List (PageItems T)) (len spare : ℕ) (list : PagedItems T) (kept : IsKept pages len spare) (view : paged_of pages spare ≡ list) where
  pub length_is : length list.items ≡ len
  length_is = ap (λ v. length v.items) (sym view) ∙ filled_length (parts pages) len kept.filled

  pub owned_is : length list.owned ≡ len
  owned_is = ap (λ v. length v.owned) (sym view) ∙ filled_length (map marks pages) len (page.marks_filled pages len kept.filled)

  spare_is : list.spare ≡ spare
  spare_is = ap (λ v. v.spare) (sym view)

  -- only a place of the list is owned
  pub owned_within : (at : ℕ) → Owns list at → at < length list.items
  owned_within at h = omega (arith, page.true_within list.owned at h, owned_is, length_is)

  pages_within : (k : ℕ) → 64 * k < len + spare → k < length pages
  pages_within k h = omega (arith, h, kept.room)

  module _ (at : ℕ) (lt : at < length list.items) where
    pub in_pages : at / 64 < length pages
    in_pages = pages_within (at / 64) (omega (arith, lt, length_is))

    place : at ≡ 64 * (at / 64) + at % 64
    place = omega arith

    below : at < len
    below = omega (arith, lt, length_is)

    module _ (p : PageItems T) (read : p ≡ get_or pages (at / 64) p) where
      pub in_page : at % 64 < length p.items
      in_page = page.place_in pages (at / 64) p p in_pages read len at (at % 64) kept.filled place (omega arith) below

      pub item_here : (d : T) → get_or p.items (at % 64) d ≡ get_or list.items at d
      item_here d =
          page.value_at pages (at / 64) p p in_pages read len at (at % 64) kept.filled place (omega arith) below d ∙ ap (λ v. get_or v.items at d) view

      pub owned_here : get_or list.owned at false ≡ p.owned
      owned_here =
          ap (λ v. get_or v.owned at false) (sym view)
          ∙ page.owned_here pages (at / 64) p p in_pages read len at (at % 64) kept.filled place (omega arith) below

      module _ (q : PageItems T) (v : T) (put : q.items ≡ set p.items (at % 64) v) (same : q.owned ≡ p.owned) where
        pub items_put : items_of (set pages (at / 64) q) ≡ set list.items at v
        items_put =
            page.items_put pages (at / 64) p q in_pages read len at (at % 64) v kept.filled place (omega arith) below put same
            ∙ ap (λ l. set l.items at v) view

        pub owned_put : owned_of (set pages (at / 64) q) ≡ list.owned
        owned_put =
            page.owned_put pages (at / 64) p q in_pages read len at (at % 64) v kept.filled place (omega arith) below put same
            ∙ ap (λ l. l.owned) view

        flags_put : flags (set pages (at / 64) q) ≡ flags pages
        flags_put = page.flags_same pages (at / 64) p q in_pages read same

        pub kept_put : IsKept (set pages (at / 64) q) len spare
        kept_put = record {
          filled = page.filled_put pages (at / 64) p q in_pages read len at (at % 64) v kept.filled place (omega arith) below put same;
          small = kept.small;
          room = omega (arith, kept.room, length-set pages (at / 64) q);
          ready = λ some k h within. ap (λ bs. get_or bs k true) flags_put ∙ kept.ready some k h within;
        }

  module _ (some : 0 < list.spare) where
    pub last_within : len / 64 < length pages
    last_within = pages_within (len / 64) (omega (arith, some, spare_is))

    end : len ≡ 64 * (len / 64) + len % 64
    end = omega arith

    module _ (p : PageItems T) (read : p ≡ get_or pages (len / 64) p) where
      pub last_owned : p.owned ≡ true
      last_owned =
          sym (page.flag_here pages (len / 64) p p last_within read) ∙ kept.ready (omega (arith, some, spare_is)) (len / 64) (omega arith) (omega (arith, some, spare_is))

      pub last_room : length p.items < 64
      last_room = omega (arith, page.length_here pages (len / 64) p p last_within read len (len % 64) kept.filled end (omega arith))

      module _ (q : PageItems T) (v : T) (push : q.items ≡ p.items ++ v ∷ []) (owned : q.owned ≡ true) where
        pub items_push : items_of (set pages (len / 64) q) ≡ list.items ++ v ∷ []
        items_push =
            page.items_push pages (len / 64) p q last_within read len (len % 64) v kept.filled end (omega arith) push last_owned owned
            ∙ ap (λ l. l.items ++ v ∷ []) view

        pub owned_push : owned_of (set pages (len / 64) q) ≡ list.owned ++ true ∷ []
        owned_push =
            page.owned_push pages (len / 64) p q last_within read len (len % 64) v kept.filled end (omega arith) push last_owned owned
            ∙ ap (λ l. l.owned ++ true ∷ []) view

        flags_push : flags (set pages (len / 64) q) ≡ flags pages
        flags_push = page.flags_same pages (len / 64) p q last_within read (owned ∙ sym last_owned)

        pub kept_push : IsKept (set pages (len / 64) q) (len + 1) (spare - 1)
        kept_push = record {
          filled = page.filled_pushed pages (len / 64) p q last_within read len (len % 64) v kept.filled end (omega arith) push last_owned owned;
          small = omega (arith, kept.small, some, spare_is);
          room = omega (arith, kept.room, some, spare_is, length-set pages (len / 64) q);
          ready = λ more k h within. ap (λ bs. get_or bs k true) flags_push ∙ kept.ready (omega (arith, more)) k (omega (arith, h)) (omega (arith, within, some, spare_is));
        }

  -- what was owned still is
  pub keeps_owned : (new : List (PageItems T)) (spare' : ℕ) → KeepsPages pages new → KeepsOwned list (paged_of new spare')
  keeps_owned new spare' keeps at h =
      page.owned_up pages new keeps.items keeps.owned at (ap (λ v. get_or v.owned at false) view ∙ h)

  pub owned_after : (new : List (PageItems T)) → KeepsPages pages new → (at : ℕ) → at < length list.items → get_or (flags new) (at / 64) true ≡ true
      → get_or (owned_of new) at false ≡ true
  owned_after new keeps at lt h =
      page.owned_at new len at (at / 64) (at % 64) (subst (λ ps. Filled ps len) (sym keeps.items) kept.filled) (place at lt) (omega arith) (below at lt) ∙ h

  pub items_kept : (new : List (PageItems T)) → parts new ≡ parts pages → items_of new ≡ list.items
  items_kept new e = ap joined e ∙ ap (λ v. v.items) view

  -- no place of a page that is shared is owned
  pub run_shared : (at : ℕ) → at < length list.items → (p : PageItems T) → p ≡ get_or pages (at / 64) p → p.owned ≡ false
      → (i : ℕ) → i / 64 ≡ at / 64 → get_or list.owned i false ≡ false
  run_shared at lt p read none i same =
      elim (cases_lt i (length list.items)) [
        | inl within ↦ owned_here i within p (subst (λ k. p ≡ get_or pages k p) (sym same) read) ∙ none
        | inr past ↦ get_or_past list.owned i false (omega (arith, past, owned_is, length_is))
      ]

  -- no page with elements is owned
  pub page_shared : OwnsNothing list → (k : ℕ) → 64 * k < len → get_or (flags pages) k true ≡ false
  page_shared none k lt =
      sym (page.owned_at pages len (64 * k) k 0 kept.filled (omega arith) (omega arith) lt) ∙ ap (λ v. get_or v.owned (64 * k) false) view ∙ none (64 * k)

  module _ (used : ℕ) (le : len ≤ 64 * used) where
    module _ (tight : 64 * used < len + 64) where
      pub used_within : used ≤ length pages
      used_within = omega (arith, filled_bound (parts pages) len kept.filled, length-map pages (λ page. page.items), tight)

      pub shared_here : OwnsNothing list → (k : ℕ) (p : PageItems T) → k < used → p ≡ get_or pages k p → p.owned ≡ false
      shared_here none k p lt read =
          sym (page.flag_here pages k p p (omega (arith, lt, used_within)) read) ∙ page_shared none k (omega (arith, lt, tight))

    module _ (new : List (PageItems T)) (e : parts new ≡ parts (take used pages)) where
      pub items_frozen : items_of new ≡ list.items
      items_frozen = page.items_frozen pages new len used kept.filled le e ∙ ap (λ v. v.items) view

      pub kept_frozen : IsKept new len 0
      kept_frozen = page.kept_frozen pages new len used kept.filled (omega (arith, kept.small)) le e

    pub owned_shared : (new : List (PageItems T)) → new ≡ take used pages → owned_of new ≡ list.owned
    owned_shared new e = ap owned_of e ∙ page.owned_frozen pages len used kept.filled le ∙ ap (λ v. v.owned) view

  -- ---- more pages

  module _ (mid : List (PageItems T)) (m : ℕ) (e : mid ≡ pages ++ replicate m empty_page) where
    pub owned_appended : owned_of mid ≡ list.owned
    owned_appended = ap owned_of e ∙ page.owned_more pages m ∙ ap (λ v. v.owned) view

    pub filled_more : Filled (parts mid) len
    filled_more = subst (λ ps. Filled (parts ps) len) (sym e) (page.filled_more pages m len kept.filled)

    module _ (new : List (PageItems T)) (keeps : KeepsPages mid new) where
      pub items_grown : items_of new ≡ list.items
      items_grown = ap joined keeps.items ∙ ap items_of e ∙ page.items_more pages m ∙ ap (λ v. v.items) view

      pub owned_grown : (spare' : ℕ) → KeepsOwned list (paged_of new spare')
      owned_grown spare' at h = page.owned_up mid new keeps.items keeps.owned at (ap (λ (bs : List Bool). get_or bs at false) owned_appended ∙ h)

      flags_grown : (k : ℕ) → get_or (flags pages) k true ≡ true → get_or (flags new) k true ≡ true
      flags_grown k h = keeps.owned k (ap (λ ps. get_or (flags ps) k true) e ∙ page.flags_more pages m k h)

      filled_grown : Filled (parts new) len
      filled_grown = subst (λ ps. Filled ps len) (sym keeps.items) filled_more

      pub wider : length pages ≤ length new
      wider = omega (arith, ap length e, length-append pages (replicate m empty_page), page.length_same mid new keeps.items)

      pub kept_grown : IsKept new len spare
      kept_grown = record {
        filled = filled_grown;
        small = kept.small;
        room = omega (arith, kept.room, wider);
        ready = λ some k h within. flags_grown k (kept.ready some k h within);
      }

      -- with room up to the end of a page
      pub kept_wider : (first wanted spare' : ℕ) → 64 * first ≤ len
          → ((k : ℕ) → first ≤ k → k < wanted → get_or (flags new) k true ≡ true) → len + spare' < 2 ^ 64 → len + spare' ≤ 64 * wanted
          → wanted ≤ length new → IsKept new len spare'
      kept_wider first wanted spare' here owned small room within = record {
        filled = filled_grown;
        small = small;
        room = omega (arith, room, within);
        ready = λ some k h lt. owned k (omega (arith, here, h)) (omega (arith, lt, room));
      }
