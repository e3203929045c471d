-- Pages that stand in sections.
use Rattle.dl_pages.specs.Paged.{PagedItems, Owns, OwnsNothing}
use Rattle.dl_pages.specs.Pages.{PageItems, empty_page, page_at, pushed, written, parts, flags, items_of, owned_of, KeepsPages, AreNested, AreShared}
use Rattle.dl_pages.specs.KeptPages.{paged_of, IsKept}
use Rattle.dl_pages.specs.KeptPaged.{IsKeptPaged}
use Rattle.dl_pages.proofs.PageLemmas as page
use Rattle.dl_pages.proofs.PagedLemmas as paged
use Rattle.std.proofs.Common.{◌≡◌, ℕ, zero, suc, ◌+◌, ◌-◌, ◌*◌, ◌/◌, ◌%◌, ◌<◌, ◌≤◌, Bool, true, false, List, [], ◌∷◌, ◌++◌, refl, length, get_or, set, take, sym, ap, ◌∙◌, subst, arith, inl, inr, ◌≢◌, get_or-take, length-take}
use Rattle.std.proofs.Math.ListN.{length-map}
use Rattle.std.proofs.lemmas.Bool.{cases_eq, cases_lt, false_from_ne_true}
use Rattle.std.proofs.lemmas.List.{get_or-map, get_or_past, get_or_default, get_or_append_left, set-get_or, take-map}

module _ {T : Type 0} where
  pub page_is : (pages : List (PageItems T)) (k : ℕ) → k < length pages → page_at pages k ≡ get_or pages k (page_at pages k)
  page_is pages k within = get_or_default pages k empty_page (page_at pages k) within

  pub flag_is : (pages : List (PageItems T)) (k : ℕ) → k < length pages → get_or (flags pages) k false ≡ (page_at pages k).owned
  flag_is pages k within = get_or-map (λ page. page.owned) pages k empty_page false within

  flag_within : (pages : List (PageItems T)) (k : ℕ) → get_or (flags pages) k false ≡ true → k < length pages
  flag_within pages k h = omega (arith, page.true_within (flags pages) k h, length-map pages (λ page. page.owned))

  -- ---- where owned pages stand

  pub place_owned : (pages : List (PageItems T)) (places : List Bool) (k : ℕ) → k < length pages → AreNested pages places → (page_at pages k).owned ≡ true
      → get_or places k false ≡ true
  place_owned pages places k within nested h = nested k (flag_is pages k within ∙ h)

  pub shared_nested : (pages : List (PageItems T)) (places : List Bool) → AreShared pages → AreNested pages places
  shared_nested pages places none k h = let no' = none k in absurd (cc)

  pub place_shared : (pages : List (PageItems T)) (places : List Bool) (k : ℕ) → AreNested pages places → get_or places k false ≡ false
      → get_or (flags pages) k false ≡ false
  place_shared pages places k nested no' = false_from_ne_true (get_or (flags pages) k false) (λ yes. let h = nested k yes in absurd (cc))

  pub places_shared : (pages : List (PageItems T)) (places : List Bool) (n : ℕ) → AreNested pages places → n ≡ length places
      → ((at : ℕ) → 0 ≤ at → at < n → get_or places at false ≡ false) → (at : ℕ) → get_or places at false ≡ false
  places_shared pages places n nested all none at =
      elim (cases_lt at n) [
        | inl lt ↦ none at (omega arith) lt
        | inr ge ↦ get_or_past places at false (omega (arith, ge, all))
      ]

  pub nested_same : (pages new : List (PageItems T)) (places places' : List Bool) → flags new ≡ flags pages → places' ≡ places → AreNested pages places
      → AreNested new places'
  nested_same pages new places places' same e nested k h =
      ap (λ (bs : List Bool). get_or bs k false) e ∙ nested k (ap (λ (bs : List Bool). get_or bs k false) (sym same) ∙ h)

  pub nested_up : (pages new : List (PageItems T)) (places places' : List Bool) → new ≡ pages
      → ((i : ℕ) → get_or places i false ≡ true → get_or places' i false ≡ true) → AreNested pages places → AreNested new places'
  nested_up pages new places places' e up nested k h = up k (nested k (ap (λ ps. get_or (flags ps) k false) (sym e) ∙ h))

  -- one page becomes another
  module _ (pages : List (PageItems T)) (places places' : List Bool) (k : ℕ) (q : PageItems T) (within : k < length pages) where
    pub nested_set : AreNested pages places → ((i : ℕ) → get_or places i false ≡ true → get_or places' i false ≡ true)
        → (q.owned ≡ true → get_or places' k false ≡ true) → AreNested (set pages k q) places'
    nested_set nested up here j h =
        elim (cases_eq j k) [
          | inl same ↦
              subst (λ i. get_or places' i false ≡ true) (sym same)
              (here
              (sym (page.flag_set pages k (page_at pages k) q within (page_is pages k within) false) ∙ ap (λ i. get_or (flags (set pages k q)) i false) (sym same) ∙ h))
          | inr differs ↦ up j (nested j (sym (page.flag_other pages k (page_at pages k) q within (page_is pages k within) j differs) ∙ h))
        ]

  -- a page comes behind the others, in a place that is owned
  pub nested_push : (pages new : List (PageItems T)) (places places' : List Bool) (p : PageItems T) → AreNested pages places → new ≡ pages ++ p ∷ []
      → places' ≡ places ++ true ∷ [] → get_or places' (length pages) false ≡ true → AreNested new places'
  nested_push pages new places places' p nested e grown here k h =
      elim (cases_eq k (length pages)) [
        | inl last ↦ ap (λ i. get_or places' i false) last ∙ here
        | inr differs ↦
            let was = nested k (flag_before pages k differs (ap (λ ps. get_or (flags ps) k false) (sym e) ∙ h)) in
            ap (λ (bs : List Bool). get_or bs k false) grown ∙ get_or_append_left places (true ∷ []) false k (page.true_within places k was) ∙ was
      ]
    where
      flag_before : (ps : List (PageItems T)) (j : ℕ) → j ≢ length ps → get_or (flags (ps ++ p ∷ [])) j false ≡ true → get_or (flags ps) j false ≡ true
      flag_before [] zero differs h = absurd (differs refl)
      flag_before [] (suc j) differs h = h
      flag_before (x ∷ ps) zero differs h = h
      flag_before (x ∷ ps) (suc j) differs h = flag_before ps j (λ e. differs (omega (arith, e))) h

  -- only shared pages
  pub shared_take : (pages new : List (PageItems T)) (used : ℕ) → used ≤ length pages → ((k : ℕ) → k < used → (page_at pages k).owned ≡ false)
      → new ≡ take used pages → AreShared new
  shared_take pages new used le none e k =
      ap (λ ps. get_or (flags ps) k false) e
      ∙ elim (cases_lt k used) [
        | inl lt ↦
            ap (λ (bs : List Bool). get_or bs k false) (sym (take-map (λ page. page.owned) used pages)) ∙ get_or-take used (flags pages) k false lt
            ∙ flag_is pages k (omega (arith, lt, le)) ∙ none k lt
        | inr ge ↦
            get_or_past (flags (take used pages)) k false
            (omega (arith, ge, length-map (take used pages) (λ page. page.owned), length-take used pages))
      ]

  -- ---- a page is owned, in its section

  module _ (pages mid new : List (PageItems T)) (places places' : List Bool) (k : ℕ) (q : PageItems T) (within : k < length pages) (e : mid ≡ pages) (is : new ≡ set mid k q) (items : q.items ≡ (page_at mid k).items) where
    mid_within : k < length mid
    mid_within = subst (λ ps. k < length ps) (sym e) within

    pub own_kept : ((page_at mid k).owned ≡ true → q.owned ≡ true) → KeepsPages pages new
    own_kept up =
        subst (λ ps. KeepsPages ps new) e
        (subst (λ ps. KeepsPages mid ps) (sym is) (page.keeps_set mid k (page_at mid k) q mid_within (page_is mid k mid_within) items up))

    pub own_nested : AreNested pages places → ((i : ℕ) → get_or places i false ≡ true → get_or places' i false ≡ true) → get_or places' k false ≡ true
        → AreNested new places'
    own_nested nested up here =
        subst (λ ps. AreNested ps places') (sym is)
        (nested_set mid places places' k q mid_within (subst (λ ps. AreNested ps places) (sym e) nested) up (λ h. here))

    pub own_flag : q.owned ≡ true → get_or (flags new) k true ≡ true
    own_flag h = ap (λ ps. get_or (flags ps) k true) is ∙ page.owned_set mid k (page_at mid k) q mid_within (page_is mid k mid_within) h

    pub own_others : (j : ℕ) → j ≢ k → get_or (flags new) j false ≡ get_or (flags pages) j false
    own_others j differs =
        ap (λ ps. get_or (flags ps) j false) is ∙ page.flag_other mid k (page_at mid k) q mid_within (page_is mid k mid_within) j differs
        ∙ ap (λ ps. get_or (flags ps) j false) e

    pub own_failed : q ≡ page_at mid k → new ≡ pages
    own_failed same = is ∙ ap (λ p. set mid k p) same ∙ set-get_or mid k empty_page ∙ e

  -- ---- a page is shared

  module _ (pages new : List (PageItems T)) (k : ℕ) (q : PageItems T) (within : k < length pages) (is : new ≡ set pages k q) where
    pub freeze_parts : q.items ≡ (page_at pages k).items → parts new ≡ parts pages
    freeze_parts items = ap parts is ∙ page.parts_same pages k (page_at pages k) q within (page_is pages k within) items

    pub freeze_nested : (places places' : List Bool) → places' ≡ places → (q.owned ≡ true → (page_at pages k).owned ≡ true) → AreNested pages places
        → AreNested new places'
    freeze_nested places places' e down nested j h =
        ap (λ (bs : List Bool). get_or bs j false) e
        ∙ nested j
        (page.no_more_flags pages k (page_at pages k) q within (page_is pages k within) down j (ap (λ ps. get_or (flags ps) j false) (sym is) ∙ h))

    pub freeze_shared : (places : List Bool) (next : ℕ) → q.owned ≡ false → ((j : ℕ) → j < k → get_or (flags pages) j false ≡ false)
        → ((j : ℕ) → k + 1 ≤ j → j < next → get_or places j false ≡ false) → AreNested new places → (j : ℕ) → j < next → get_or (flags new) j false ≡ false
    freeze_shared places next shared before none nested j lt =
        elim (cases_lt j (k + 1)) [
          | inl here ↦
              ap (λ ps. get_or (flags ps) j false) is
              ∙ page.shared_next pages k (page_at pages k) q within (page_is pages k within) shared before j here
          | inr ge ↦ place_shared new places j nested (none j ge lt)
        ]

-- ---- a list whose pages stand in sections

module _ {T : Type 0} (pages : List (PageItems T)) (places : List Bool) (len spare : ℕ) (list : PagedItems T) (kept : IsKeptPaged pages places len spare) (view : paged_of pages spare ≡ list) where
  module _ (some : 0 < list.spare) where
    last_within : len / 64 < length pages
    last_within = paged.last_within pages len spare list kept.kept view some

    pub push_page : (page_at pages (len / 64)).owned ≡ true
    push_page = paged.last_owned pages len spare list kept.kept view some (page_at pages (len / 64)) (page_is pages (len / 64) last_within)

    pub push_place : get_or places (len / 64) false ≡ true
    push_place = place_owned pages places (len / 64) last_within kept.nested push_page

    pub push_room : length (page_at pages (len / 64)).items < 64
    push_room = paged.last_room pages len spare list kept.kept view some (page_at pages (len / 64)) (page_is pages (len / 64) last_within)

    module _ (new : List (PageItems T)) (v : T) (e : new ≡ set pages (len / 64) (pushed (page_at pages (len / 64)) v)) where
      pub items_push : items_of new ≡ list.items ++ v ∷ []
      items_push =
          ap items_of e
          ∙ paged.items_push pages len spare list kept.kept view some (page_at pages (len / 64)) (page_is pages (len / 64) last_within)
          (pushed (page_at pages (len / 64)) v) v refl push_page

      pub owned_push : owned_of new ≡ list.owned ++ true ∷ []
      owned_push =
          ap owned_of e
          ∙ paged.owned_push pages len spare list kept.kept view some (page_at pages (len / 64)) (page_is pages (len / 64) last_within)
          (pushed (page_at pages (len / 64)) v) v refl push_page

      pub kept_push : (places' : List Bool) → places' ≡ places → IsKeptPaged new places' (len + 1) (spare - 1)
      kept_push places' same = record {
        kept =
            subst (λ ps. IsKept ps (len + 1) (spare - 1)) (sym e)
            (paged.kept_push pages len spare list kept.kept view some (page_at pages (len / 64)) (page_is pages (len / 64) last_within)
            (pushed (page_at pages (len / 64)) v) v refl push_page);
        nested =
            nested_same pages new places places'
            (ap flags e
            ∙ page.flags_same pages (len / 64) (page_at pages (len / 64)) (pushed (page_at pages (len / 64)) v) last_within (page_is pages (len / 64) last_within) refl)
            same kept.nested;
      }

  module _ (at : ℕ) (owns : Owns list at) where
    lt : at < length list.items
    lt = paged.owned_within pages len spare list kept.kept view at owns

    in_pages : at / 64 < length pages
    in_pages = paged.in_pages pages len spare list kept.kept view at lt

    pub put_page : (page_at pages (at / 64)).owned ≡ true
    put_page = sym (paged.owned_here pages len spare list kept.kept view at lt (page_at pages (at / 64)) (page_is pages (at / 64) in_pages)) ∙ owns

    pub put_place : get_or places (at / 64) false ≡ true
    put_place = place_owned pages places (at / 64) in_pages kept.nested put_page

    pub put_within : at % 64 < length (page_at pages (at / 64)).items
    put_within = paged.in_page pages len spare list kept.kept view at lt (page_at pages (at / 64)) (page_is pages (at / 64) in_pages)

    pub put_value : (d : T) → get_or (page_at pages (at / 64)).items (at % 64) d ≡ get_or list.items at d
    put_value = paged.item_here pages len spare list kept.kept view at lt (page_at pages (at / 64)) (page_is pages (at / 64) in_pages)

    module _ (new : List (PageItems T)) (v : T) (e : new ≡ set pages (at / 64) (written (page_at pages (at / 64)) (at % 64) v)) where
      pub items_put : items_of new ≡ set list.items at v
      items_put =
          ap items_of e
          ∙ paged.items_put pages len spare list kept.kept view at lt (page_at pages (at / 64)) (page_is pages (at / 64) in_pages)
          (written (page_at pages (at / 64)) (at % 64) v) v refl refl

      pub owned_put : owned_of new ≡ list.owned
      owned_put =
          ap owned_of e
          ∙ paged.owned_put pages len spare list kept.kept view at lt (page_at pages (at / 64)) (page_is pages (at / 64) in_pages)
          (written (page_at pages (at / 64)) (at % 64) v) v refl refl

      pub kept_put : (places' : List Bool) → places' ≡ places → IsKeptPaged new places' len spare
      kept_put places' same = record {
        kept =
            subst (λ ps. IsKept ps len spare) (sym e)
            (paged.kept_put pages len spare list kept.kept view at lt (page_at pages (at / 64)) (page_is pages (at / 64) in_pages)
            (written (page_at pages (at / 64)) (at % 64) v) v refl refl);
        nested =
            nested_same pages new places places'
            (ap flags e
            ∙ page.flags_same pages (at / 64) (page_at pages (at / 64)) (written (page_at pages (at / 64)) (at % 64) v) in_pages (page_is pages (at / 64) in_pages) refl)
            same kept.nested;
      }

  -- all pages with elements are shared
  pub used_shared : OwnsNothing list → (used : ℕ) → len ≤ 64 * used → 64 * used < len + 64 → (k : ℕ) → k < used → (page_at pages k).owned ≡ false
  used_shared none used le tight k small =
      paged.shared_here pages len spare list kept.kept view used le tight none k (page_at pages k) small
      (page_is pages k (omega (arith, small, paged.used_within pages len spare list kept.kept view used le tight)))
