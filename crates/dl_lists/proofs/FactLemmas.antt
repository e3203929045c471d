-- Where the fact of each literal is, as facts come and go.
use Rattle.std.proofs.Common.{◌≡◌, ℕ, ◌+◌, ◌<◌, ◌≤◌, Option, None, Some, List, [], ◌∷◌, ◌++◌, length, get_or, set, take, map, sym, ap, ◌∙◌, subst, arith, inl, inr, get_or-set_same, get_or-set_other}
use Rattle.std.specs.Prelude.{All, Contains, IfSome}
use Rattle.std.proofs.lemmas.Bool.{cases_eq}
use Rattle.std.proofs.lemmas.Option.{IfSome_then}
use Rattle.std.specs.List.{range_with_len}
use Rattle.std.proofs.lemmas.List.{length-set, length-take-le, get_or-take, length_push, length-map, take_more}
use Rattle.std.proofs.lemmas.List.Elements.{All-contains, All-weaker}
use Rattle.std.proofs.lemmas.List.FromFn.{length-range_with_len, get_or-range_with_len}
use Rattle.dl_base.specs.Paths.{IsDistinct}
use Rattle.dl_base.proofs.Distinct.{no_longer}
use Rattle.dl_rows.specs.There.{there, HasNumber, IsOnce}
use Rattle.dl_pages.specs.Paged.{PagedItems}
use Rattle.dl_lists.specs.declared.fact_numbers.FactNumbers.TheInside.{Inside}
use Rattle.dl_lists.specs.KeptFacts.{ready_of, leaving_of, ArePlaced, ArePlacedIn, HasFactRoom, CanLeave, HasRoom, IsKeptFacts}
use Rattle.dl_lists.specs.declared.fact_numbers.Room.{Room}
use Rattle.dl_lists.specs.declared.fact_numbers.Room.TheVariants.{Nothing, ForFact, ForDrop}
use Rattle.dl_rows.proofs.There.{has_within, has_push, push_has, has_last, has_drop, drop_has, has_there, there_has, once_push, once_drop, distinct_once, there_some, live_push, live_drop}

-- ---- literals stay below their bound

pub within_put : (xs : List (Option ℕ)) (w literal : ℕ) → ((q n : ℕ) → HasNumber xs q n → q < w) → literal < w
    → (q n : ℕ) → HasNumber (xs ++ Some literal ∷ []) q n → q < w
within_put xs w literal h lt q n has =
    elim (push_has xs (Some literal) q n has) [
      | inl old ↦ h q n old
      | inr new ↦ let same : literal ≡ q = cc in subst (λ (k : ℕ). k < w) same lt
    ]

pub within_drop : (xs : List (Option ℕ)) (w k : ℕ) → ((q n : ℕ) → HasNumber xs q n → q < w)
    → (q n : ℕ) → HasNumber (set xs k None) q n → q < w
within_drop xs w k h q n has = h q n (drop_has xs k q n has).0

-- ---- the place of each

pub placed_none : (w : ℕ) (ps : List (Option ℕ)) → length ps ≡ w → ((n : ℕ) → get_or ps n None ≡ None) → ArePlaced [] w ps
placed_none w ps wide empty = record {
  wide = wide;
  right = λ q n h. let none : None ≡ Some n = sym (empty q) ∙ h in cc;
  all = λ q n h. cc;
}

pub placed_wider : (xs : List (Option ℕ)) (w w' : ℕ) (ps ps' : List (Option ℕ)) → ArePlaced xs w ps → length ps' ≡ w'
    → ((n : ℕ) → get_or ps' n None ≡ get_or ps n None) → ArePlaced xs w' ps'
placed_wider xs w w' ps ps' h wide same = record {
  wide = wide;
  right = λ q n has. h.right q n (sym (same q) ∙ has);
  all = λ q n has. same q ∙ h.all q n has;
}

-- an empty number at the end
pub placed_past : (xs : List (Option ℕ)) (w : ℕ) (ps : List (Option ℕ)) → ArePlaced xs w ps → ArePlaced (xs ++ None ∷ []) w ps
placed_past xs w ps h = record {
  wide = h.wide;
  right = λ q n has. has_push xs None q n (h.right q n has);
  all = λ q n has.
      elim (push_has xs None q n has) [
        | inl old ↦ h.all q n old
        | inr new ↦ let none : None ≡ Some q = new.1 in cc
      ];
}

pub placed_put : (xs : List (Option ℕ)) (w : ℕ) (ps : List (Option ℕ)) (literal : ℕ) → ArePlaced xs w ps → literal < w
    → (¬ Contains (there xs) literal) → ArePlaced (xs ++ Some literal ∷ []) w (set ps literal (Some (length xs)))
placed_put xs w ps literal h lt new = record {
  wide = length-set ps literal (Some (length xs)) ∙ h.wide;
  right = λ q n has.
      elim (cases_eq q literal) [
        | inl here ↦
            let at : Some (length xs) ≡ Some n =
            sym (get_or-set_same ps literal (Some (length xs)) None (omega (arith, lt, h.wide)))
            ∙ ap (λ (k : ℕ). get_or (set ps literal (Some (length xs))) k None) (sym here) ∙ has in
            let last : length xs ≡ n = cc in
            subst (λ (k : ℕ). HasNumber (xs ++ Some literal ∷ []) q k) last
            (subst (λ (k : ℕ). HasNumber (xs ++ Some literal ∷ []) k (length xs)) (sym here) (has_last xs literal))
        | inr other ↦ has_push xs (Some literal) q n (h.right q n (sym (get_or-set_other ps literal q (Some (length xs)) None other) ∙ has))
      ];
  all = λ q n has.
      elim (push_has xs (Some literal) q n has) [
        | inl old ↦
            get_or-set_other ps literal q (Some (length xs)) None (λ same. new (subst (λ (k : ℕ). Contains (there xs) k) same (has_there xs q n old)))
            ∙ h.all q n old
        | inr last ↦
            let same : literal ≡ q = cc in
            ap (λ (k : ℕ). get_or (set ps literal (Some (length xs))) k None) (sym same)
            ∙ get_or-set_same ps literal (Some (length xs)) None (omega (arith, lt, h.wide)) ∙ ap Some (sym last.0)
      ];
}

pub placed_drop : (xs : List (Option ℕ)) (w : ℕ) (ps : List (Option ℕ)) (literal k : ℕ) → ArePlaced xs w ps → literal < w → IsOnce xs
    → HasNumber xs literal k → ArePlaced (set xs k None) w (set ps literal None)
placed_drop xs w ps literal k h lt once at = record {
  wide = length-set ps literal None ∙ h.wide;
  right = λ q n has.
      elim (cases_eq q literal) [
        | inl here ↦
            let none : None ≡ Some n =
            sym (get_or-set_same ps literal None None (omega (arith, lt, h.wide)))
            ∙ ap (λ (j : ℕ). get_or (set ps literal None) j None) (sym here) ∙ has in
            cc
        | inr other ↦
            let old : HasNumber xs q n = h.right q n (sym (get_or-set_other ps literal q None None other) ∙ has) in
            has_drop xs k q n old
            (λ same. let two : Some q ≡ Some literal = sym old ∙ ap (λ (j : ℕ). get_or xs j None) same ∙ at in let one : q ≡ literal = cc in other one)
      ];
  all = λ q n has.
      let old = drop_has xs k q n has in
      get_or-set_other ps literal q None None
      (λ same. old.1 (once literal n k (subst (λ (j : ℕ). HasNumber xs j n) same old.0) at))
      ∙ h.all q n old.0;
}

-- ---- all facts are gone through

pub front_new : (xs : List (Option ℕ)) (k literal : ℕ) → IsOnce xs → k < length xs → HasNumber xs literal k
    → ¬ Contains (there (take k xs)) literal
front_new xs k literal once lt at m =
    let from = there_has (take k xs) literal m in
    let before : from.0 < k = omega (arith, has_within (take k xs) literal from.0 from.1, length-take-le k xs (omega (arith, lt))) in
    absurd (omega (arith, before, once literal from.0 k (sym (get_or-take k xs from.0 None before) ∙ from.1) at))

module _ (xs : List (Option ℕ)) (k w : ℕ) (ps : List (Option ℕ)) (lt : k < length xs) (h : ArePlaced (take k xs) w ps) where
  -- a number that has a fact
  pub front_some : (literal : ℕ) → IsOnce xs → literal < w → HasNumber xs literal k → ArePlaced (take (k + 1) xs) w (set ps literal (Some k))
  front_some literal once below at =
      subst (λ (l : List (Option ℕ)). ArePlaced l w (set ps literal (Some k)))
      (ap (λ (o : Option ℕ). take k xs ++ o ∷ []) (sym at) ∙ sym (take_more xs k None lt))
      (subst (λ (n : ℕ). ArePlaced (take k xs ++ Some literal ∷ []) w (set ps literal (Some n))) (length-take-le k xs (omega (arith, lt)))
      (placed_put (take k xs) w ps literal h below (front_new xs k literal once lt at)))

  -- an empty number
  pub front_none : get_or xs k None ≡ None → ArePlaced (take (k + 1) xs) w ps
  front_none at =
      subst (λ (l : List (Option ℕ)). ArePlaced l w ps) (ap (λ (o : Option ℕ). take k xs ++ o ∷ []) (sym at) ∙ sym (take_more xs k None lt))
      (placed_past (take k xs) w ps h)

-- ---- where there are places at all

pub placed_width : (xs : List (Option ℕ)) (w : ℕ) (o : Option (PagedItems (Option ℕ))) → ArePlacedIn xs w o → IfSome o (λ p. length p.items ≡ w)
placed_width xs w None h = tt
placed_width xs w (Some p) h = h.wide

pub placed_below : (xs : List (Option ℕ)) (w : ℕ) (o : Option (PagedItems (Option ℕ))) (literal : ℕ) → ArePlacedIn xs w o → literal < w
    → IfSome o (λ p. literal < length p.items)
placed_below xs w o literal h lt = IfSome_then o (placed_width xs w o h) (λ p e. omega (arith, lt, e))

pub placed_least : (xs : List (Option ℕ)) (w v : ℕ) (o : Option (PagedItems (Option ℕ))) → ArePlacedIn xs w o → w ≤ v
    → IfSome o (λ p. length p.items ≤ v)
placed_least xs w v o h le = IfSome_then o (placed_width xs w o h) (λ p e. omega (arith, le, e))

-- ---- what is prepared

ready_fact : (r : Room) (literal : ℕ) → ready_of r ≡ Some literal → r ≡ ForFact literal
ready_fact Nothing literal e = cc
ready_fact (ForFact q) literal e = let same : q ≡ literal = cc in ap ForFact same
ready_fact (ForDrop q k) literal e = cc

pub room_ready : (a : Inside) (literal : ℕ) → IsKeptFacts a → ready_of a.room ≡ Some literal → HasFactRoom a.facts a.places a.width literal
room_ready a literal h e = subst (λ (r : Room). HasRoom a.facts a.places a.width r) (ready_fact a.room literal e) h.room

-- ---- a list of facts as its fields hold it

pub kept_put : (a b : Inside) (literal : ℕ) → IsKeptFacts a → literal < a.width → (¬ Contains (there a.facts.items) literal)
    → length a.facts.items < 4294967295 → b.facts.items ≡ a.facts.items ++ Some literal ∷ [] → b.width ≡ a.width
    → ArePlacedIn (a.facts.items ++ Some literal ∷ []) a.width b.places → b.live ≡ a.live + 1 → HasRoom b.facts b.places b.width b.room → IsKeptFacts b
kept_put a b literal h lt new few items width placed live room = record {
  within = λ q n has. subst (λ (w : ℕ). q < w) (sym width)
      (within_put a.facts.items a.width literal h.within lt q n (subst (λ (xs : List (Option ℕ)). HasNumber xs q n) items has));
  once = subst (λ (xs : List (Option ℕ)). IsOnce xs) (sym items) (once_push a.facts.items literal h.once new);
  placed = subst (λ (xs : List (Option ℕ)). ArePlacedIn xs b.width b.places) (sym items)
      (subst (λ (w : ℕ). ArePlacedIn (a.facts.items ++ Some literal ∷ []) w b.places) (sym width) placed);
  live = omega (
    arith,
    live,
    h.live,
    live_push a.facts.items literal,
    ap (λ (xs : List (Option ℕ)). length (there xs)) items,
  );
  narrow = omega (arith, h.narrow, width);
  few = omega (arith, few, ap (λ (xs : List (Option ℕ)). length xs) items, length_push a.facts.items (Some literal));
  room = room;
}

pub kept_drop : (a b : Inside) (literal k : ℕ) → IsKeptFacts a → HasNumber a.facts.items literal k
    → b.facts.items ≡ set a.facts.items k None → b.width ≡ a.width
    → ArePlacedIn (set a.facts.items k None) a.width b.places → b.live + 1 ≡ a.live → HasRoom b.facts b.places b.width b.room → IsKeptFacts b
kept_drop a b literal k h at items width placed live room = record {
  within = λ q n has. subst (λ (w : ℕ). q < w) (sym width)
      (within_drop a.facts.items a.width k h.within q n (subst (λ (xs : List (Option ℕ)). HasNumber xs q n) items has));
  once = subst (λ (xs : List (Option ℕ)). IsOnce xs) (sym items) (once_drop a.facts.items k h.once);
  placed = subst (λ (xs : List (Option ℕ)). ArePlacedIn xs b.width b.places) (sym items)
      (subst (λ (w : ℕ). ArePlacedIn (set a.facts.items k None) w b.places) (sym width) placed);
  live = omega (
    arith,
    live,
    h.live,
    live_drop a.facts.items literal k at,
    ap (λ (xs : List (Option ℕ)). length (there xs)) items,
  );
  narrow = omega (arith, h.narrow, width);
  few = omega (arith, h.few, ap (λ (xs : List (Option ℕ)). length xs) items, length-set a.facts.items k None);
  room = room;
}

-- distinct numbers below a bound are no more than it
few_below : (xs : List ℕ) (w : ℕ) → All (λ q. q < w) xs → IsDistinct xs → length xs ≤ w
few_below xs w below distinct =
    let among : All (Contains (range_with_len 0 w)) xs =
    All-weaker (λ q. q < w) (Contains (range_with_len 0 w)) (λ q lt. (q, omega (arith, lt, length-range_with_len 0 w), omega (arith, get_or-range_with_len 0 w q q lt))) xs below in
    omega (arith, no_longer xs (range_with_len 0 w) distinct among, length-range_with_len 0 w)

-- facts of which none has gone
pub kept_all : (b : Inside) (xs : List ℕ) → b.facts.items ≡ map Some xs → All (λ q. q < b.width) xs → IsDistinct xs → b.width ≤ 4294967295
    → ArePlacedIn (map Some xs) b.width b.places → b.live ≡ length xs → HasRoom b.facts b.places b.width b.room → IsKeptFacts b
kept_all b xs items below distinct narrow placed live room = record {
  within = λ q n has.
      let stands : Contains (there (map Some xs)) q = has_there (map Some xs) q n (subst (λ (l : List (Option ℕ)). HasNumber l q n) items has) in
      All-contains (λ k. k < b.width) xs q below (subst (λ (l : List ℕ). Contains l q) (there_some xs) stands);
  once = subst (λ (l : List (Option ℕ)). IsOnce l) (sym items)
      (distinct_once (map Some xs) (subst (λ (l : List ℕ). IsDistinct l) (sym (there_some xs)) distinct));
  placed = subst (λ (l : List (Option ℕ)). ArePlacedIn l b.width b.places) (sym items) placed;
  live = live ∙ ap (λ (l : List ℕ). length l) (sym (there_some xs)) ∙ sym (ap (λ (l : List (Option ℕ)). length (there l)) items);
  narrow = narrow;
  few = omega (
    arith,
    few_below xs b.width below distinct,
    narrow,
    length-map xs (λ (n : ℕ). Some n),
    ap (λ (l : List (Option ℕ)). length l) items,
  );
  room = room;
}

-- the facts stay, and the bound may rise
pub kept_wider : (a b : Inside) → IsKeptFacts a → b.facts.items ≡ a.facts.items → a.width ≤ b.width → b.width ≤ 4294967295
    → ArePlacedIn a.facts.items b.width b.places → b.live ≡ a.live → HasRoom b.facts b.places b.width b.room → IsKeptFacts b
kept_wider a b h items wider narrow placed live room = record {
  within = λ q n has.
      let lt : q < a.width = h.within q n (subst (λ (xs : List (Option ℕ)). HasNumber xs q n) items has) in
      omega (arith, lt, wider);
  once = subst (λ (xs : List (Option ℕ)). IsOnce xs) (sym items) h.once;
  placed = subst (λ (xs : List (Option ℕ)). ArePlacedIn xs b.width b.places) (sym items) placed;
  live = live ∙ h.live ∙ sym (ap (λ (xs : List (Option ℕ)). length (there xs)) items);
  narrow = narrow;
  few = omega (arith, h.few, ap (λ (xs : List (Option ℕ)). length xs) items);
  room = room;
}
