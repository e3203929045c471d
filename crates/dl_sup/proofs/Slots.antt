-- Pairs at places that never move: one goes, one comes.
use Rattle.std.proofs.Common.{◌≡◌, ◌≢◌, ℕ, zero, suc, ◌+◌, ◌<◌, ◌≤◌, Bool, true, false, cond, List, [], ◌∷◌, ◌++◌, Option, None, Some, is_some, take, length, set, map, inl, inr, ◌⊎◌, refl, sym, ap, subst, ◌∙◌, arith, true≢false, get_or-set_same, get_or-set_other, length-append, length-set}
use Rattle.std.specs.Prelude.{filter, Contains, not, ◌==◌, ◌↔◌, IsTrue, MatchOption}
use Rattle.std.specs.Bool.{Decides}
use Rattle.std.proofs.lemmas.Bool.Decides.{Decides-eqb}
use Rattle.std.proofs.lemmas.List.{take_more, length-take-le, get_or-take, get_or_past, append-nil, get_or_push, get_or_append_left, map-append}
use Rattle.std.proofs.lemmas.List.Elements.{All-weaker, All-contains_itself, filter-append, Contains-append_right}
use Rattle.std.proofs.lemmas.Bool.{cases_eq, cases_lt}
use Rattle.dl_sup.specs.declared.link.Link.{Link}
use Rattle.dl_sup.specs.declared.slot.Slot.{Slot}
use Rattle.dl_sup.specs.declared.slot.Way.{Way}
use Rattle.dl_sup.specs.declared.slot.Way.TheVariants.{Down, Up}
use Rattle.dl_sup.specs.Links.{same_link, names_item}
use Rattle.dl_sup.specs.HeadLists.{HeadLists, head_of}
use Rattle.dl_sup.specs.Slots.{near, older, place_of, no_slot, slot_at, IsAlive, live, IsChained, IsKept, KeepsSlots, IsFoundAt}
use Rattle.dl_sup.proofs.LinkLemmas.{alike, or_left, or_right, filter_all, names_neither, not_true, same_link_apart}

-- a pair that is there stands before the end
pub alive_within : (slots : List Slot) (t : ℕ) → IsAlive slots t → t < length slots
alive_within slots t a =
    elim (cases_lt t (length slots)) [
      | inl lt ↦ lt
      | inr ge ↦ absurd (true≢false (sym a ∙ ap (λ (s : Slot). s.alive) (get_or_past slots t no_slot ge)))
    ]

-- ---- pairs go
pub near_same : (way : Way) (old new : List Slot) (t : ℕ) → KeepsSlots old new → near way (slot_at new t) ≡ near way (slot_at old t)
near_same Down old new t k = ap (λ (q : Link). q.upper) (k.links t)
near_same Up old new t k = ap (λ (q : Link). q.lower) (k.links t)

pub older_same : (way : Way) (old new : List Slot) (t : ℕ) → KeepsSlots old new → older way (slot_at new t) ≡ older way (slot_at old t)
older_same Down old new t k = k.downs t
older_same Up old new t k = k.ups t

pub IsChained-kept : (way : Way) (old new : List Slot) (heads : HeadLists) → KeepsSlots old new → IsChained way old heads → IsChained way new heads
IsChained-kept way old new heads k h = record {
  begins = λ t a. subst (λ x. t < head_of heads x) (sym (near_same way old new t k)) (h.begins t (k.alive t a));
  goes_on = λ s t before within a e.
      subst (λ x. t < x) (sym (older_same way old new s k))
      (h.goes_on s t before (subst (λ n. s < n) k.wide within) (k.alive t a) (sym (near_same way old new t k) ∙ e ∙ near_same way old new s k));
  exact = λ item t e. near_same way old new t k ∙ h.exact item t e;
  same = λ s t within e.
      near_same way old new t k ∙ h.same s t (subst (λ n. s < n) k.wide within) (sym (older_same way old new s k) ∙ e) ∙ sym (near_same way old new s k);
  short = λ item. subst (λ n. head_of heads item ≤ n) (sym k.wide) (h.short item);
  falls = λ s within. subst (λ x. x ≤ s) (sym (older_same way old new s k)) (h.falls s (subst (λ n. s < n) k.wide within));
}

pub IsKept-kept : (old new : List Slot) (places : List (Link × ℕ)) (downs ups : HeadLists) → KeepsSlots old new → IsKept old places downs ups
    → IsKept new places downs ups
IsKept-kept old new places downs ups k h = record {
  found = λ t a. ap (place_of places) (k.links t) ∙ h.found t (k.alive t a);
  below = IsChained-kept Down old new downs k h.below;
  over = IsChained-kept Up old new ups k h.over;
}

pub KeepsSlots-itself : (slots : List Slot) → KeepsSlots slots slots
KeepsSlots-itself slots = record { wide = refl; links = λ t. refl; downs = λ t. refl; ups = λ t. refl; alive = λ t a. a }

pub KeepsSlots-then : (a b c : List Slot) → KeepsSlots a b → KeepsSlots b c → KeepsSlots a c
KeepsSlots-then a b c h k = record {
  wide = k.wide ∙ h.wide;
  links = λ t. k.links t ∙ h.links t;
  downs = λ t. k.downs t ∙ h.downs t;
  ups = λ t. k.ups t ∙ h.ups t;
  alive = λ t x. h.alive t (k.alive t x);
}

module _ (slots : List Slot) (at : ℕ) (was : Slot) (within : at < length slots) (read : was ≡ slot_at slots at) where
  abbrev gone : Slot
  gone = record was { alive = false }

  pub dead_there : ¬ IsAlive (set slots at gone) at
  dead_there a = true≢false (sym a ∙ ap (λ (s : Slot). s.alive) (get_or-set_same slots at gone no_slot within))

  same_field : {X : Type 0} (f : Slot → X) → f gone ≡ f was → (t : ℕ) → f (slot_at (set slots at gone) t) ≡ f (slot_at slots t)
  same_field f e t =
      elim (cases_eq t at) [
        | inl here ↦ rw here (ap f (get_or-set_same slots at gone no_slot within) ∙ e ∙ ap f read)
        | inr differs ↦ ap f (get_or-set_other slots at t gone no_slot differs)
      ]

  pub KeepsSlots-gone : KeepsSlots slots (set slots at gone)
  KeepsSlots-gone = record {
    wide = length-set slots at gone;
    links = same_field (λ s. s.link) refl;
    downs = same_field (λ s. s.down) refl;
    ups = same_field (λ s. s.up) refl;
    alive = λ t a.
        elim (cases_eq t at) [
          | inl here ↦ absurd (dead_there (subst (λ x. IsAlive (set slots at gone) x) here a))
          | inr differs ↦ sym (ap (λ (s : Slot). s.alive) (get_or-set_other slots at t gone no_slot differs)) ∙ a
        ];
  }

live_cond : Bool → Slot → List Slot → List Link
live_cond b s rest = map (λ s. s.link) (cond b (s ∷ rest) rest)

filter_gone : (p : Link → Bool) (b : Bool) (s : Slot) (rest : List Slot) → p s.link ≡ false
    → filter p (map (λ s. s.link) (cond b (s ∷ rest) rest)) ≡ filter p (map (λ s. s.link) rest)
filter_gone p true s rest e = ap (λ (c : Bool). cond c (s.link ∷ filter p (map (λ s. s.link) rest)) (filter p (map (λ s. s.link) rest))) e
filter_gone p false s rest e = refl

filter_same_head : (p : Link → Bool) (b : Bool) (s : Slot) (us vs : List Slot) → filter p (map (λ s. s.link) us) ≡ filter p (map (λ s. s.link) vs)
    → filter p (map (λ s. s.link) (cond b (s ∷ us) us)) ≡ filter p (map (λ s. s.link) (cond b (s ∷ vs) vs))
filter_same_head p true s us vs e = ap (λ (rest : List Link). cond (p s.link) (s.link ∷ rest) rest) e
filter_same_head p false s us vs e = e

-- a pair that fails the test goes
pub filter-live_set : (p : Link → Bool) (slots : List Slot) (at : ℕ) (dead : Slot) → dead.alive ≡ false → p (slot_at slots at).link ≡ false
    → filter p (live (set slots at dead)) ≡ filter p (live slots)
filter-live_set p [] at dead d e = refl
filter-live_set p (s ∷ slots) zero dead d e =
    ap (λ (b : Bool). filter p (map (λ s. s.link) (cond b (dead ∷ filter (λ s. s.alive) slots) (filter (λ s. s.alive) slots)))) d
    ∙ sym (filter_gone p s.alive s (filter (λ s. s.alive) slots) e)
filter-live_set p (s ∷ slots) (suc at) dead d e =
    filter_same_head p s.alive s (filter (λ s. s.alive) (set slots at dead)) (filter (λ s. s.alive) slots) (filter-live_set p slots at dead d e)

-- ---- the pairs that are there
contains_head : (b : Bool) (s : Slot) (rest : List Slot) → b ≡ true → Contains (map (λ s. s.link) (cond b (s ∷ rest) rest)) s.link
contains_head true s rest e = (0, omega arith, refl)
contains_head false s rest e = absurd (true≢false (sym e))

contains_more : (b : Bool) (s : Slot) (rest : List Slot) (q : Link) → Contains (map (λ s. s.link) rest) q
    → Contains (map (λ s. s.link) (cond b (s ∷ rest) rest)) q
contains_more true s rest q m = Contains-append_right (s.link ∷ []) (map (λ s. s.link) rest) q m
contains_more false s rest q m = m

pub live_has : (slots : List Slot) (t : ℕ) → IsAlive slots t → Contains (live slots) (slot_at slots t).link
live_has [] t a = absurd (true≢false (sym a))
live_has (s ∷ slots) zero a = contains_head s.alive s (filter (λ s. s.alive) slots) a
live_has (s ∷ slots) (suc t) a = contains_more s.alive s (filter (λ s. s.alive) slots) (slot_at slots t).link (live_has slots t a)

abbrev pub StandsAt : List Slot → Link → Type 0
StandsAt slots q = (t : ℕ) × IsAlive slots t × ((slot_at slots t).link ≡ q)

live_step : (b : Bool) (s : Slot) (rest : List Slot) (q : Link) → Contains (map (λ s. s.link) (cond b (s ∷ rest) rest)) q
    → ((b ≡ true) × (s.link ≡ q)) ⊎ Contains (map (λ s. s.link) rest) q
live_step true s rest q (zero, lt, e) = inl (refl, e)
live_step true s rest q (suc k, lt, e) = inr (k, omega (arith, lt), e)
live_step false s rest q m = inr m

pub live_from : (slots : List Slot) (q : Link) → Contains (live slots) q → StandsAt slots q
live_from [] q m = absurd (omega (arith, m.1))
live_from (s ∷ slots) q m =
    elim (live_step s.alive s (filter (λ s. s.alive) slots) q m) [
      | inl here ↦ (0, here.0, here.1)
      | inr there ↦ let more = live_from slots q there in (suc more.0, more.1, more.2)
    ]

-- ---- a pair comes
pub live_dead : (slots : List Slot) (d : Slot) → d.alive ≡ false → live (slots ++ d ∷ []) ≡ live slots
live_dead slots d e =
    ap (map (λ (s : Slot). s.link)) (filter-append (λ s. s.alive) slots (d ∷ []))
    ∙ map-append (λ (s : Slot). s.link) (filter (λ s. s.alive) slots) (filter (λ s. s.alive) (d ∷ []))
    ∙ ap (λ (b : Bool). live slots ++ map (λ s. s.link) (cond b (d ∷ []) [])) e
    ∙ append-nil (live slots)

pub live_alive : (slots : List Slot) (d : Slot) → d.alive ≡ true → live (slots ++ d ∷ []) ≡ live slots ++ d.link ∷ []
live_alive slots d e =
    ap (map (λ (s : Slot). s.link)) (filter-append (λ s. s.alive) slots (d ∷ []))
    ∙ map-append (λ (s : Slot). s.link) (filter (λ s. s.alive) slots) (filter (λ s. s.alive) (d ∷ []))
    ∙ ap (λ (b : Bool). live slots ++ map (λ s. s.link) (cond b (d ∷ []) [])) e

module _ (slots : List Slot) (d : Slot) where
  pub at_front : (t : ℕ) → t < length slots → slot_at (slots ++ d ∷ []) t ≡ slot_at slots t
  at_front t lt = get_or_append_left slots (d ∷ []) no_slot t lt

  pub at_end : (t : ℕ) → length slots ≡ t → slot_at (slots ++ d ∷ []) t ≡ d
  at_end t e = get_or_push slots d no_slot t e

  pub alive_cases : (t : ℕ) → IsAlive (slots ++ d ∷ []) t
      → ((t < length slots) × IsAlive slots t) ⊎ ((length slots ≡ t) × (d.alive ≡ true))
  alive_cases t a =
      elim (cases_lt t (length slots)) [
        | inl lt ↦ inl (lt, sym (ap (λ (s : Slot). s.alive) (at_front t lt)) ∙ a)
        | inr ge ↦
            let in' : t < length (slots ++ d ∷ []) = alive_within (slots ++ d ∷ []) t a in
            let e : length slots ≡ t = omega (arith, length-append slots (d ∷ []), in') in
            inr (e, sym (ap (λ (s : Slot). s.alive) (at_end t e)) ∙ a)
      ]

  abbrev pub Raises : Way → HeadLists → HeadLists → Type 0
  Raises way old new = (q : ℕ) → (head_of new q ≡ head_of old q) ⊎ ((head_of new q ≡ suc (length slots)) × (near way d ≡ q))

  not_lower : (way : Way) (old new : HeadLists) → IsChained way slots old → Raises way old new → (q t : ℕ) → t < head_of old q → t < head_of new q
  not_lower way old new h up q t lt =
      elim (up q) [ inl e ↦ omega (arith, e, lt) | inr e ↦ omega (arith, e.0, lt, h.short q) ]

  before_end : (s : ℕ) → s < length (slots ++ d ∷ []) → (s < length slots) ⊎ (length slots ≡ s)
  before_end s lt =
      elim (cases_lt s (length slots)) [ inl front ↦ inl front | inr ge ↦ inr (omega (arith, length-append slots (d ∷ []), lt, ge)) ]

  pub IsChained-pushed : (way : Way) (old new : HeadLists) → IsChained way slots old → older way d ≡ head_of old (near way d) → Raises way old new
      → (d.alive ≡ true → length slots < head_of new (near way d)) → IsChained way (slots ++ d ∷ []) new
  IsChained-pushed way old new h own up newest = record {
    begins = λ t a.
        elim (alive_cases t a) [
          | inl front ↦
              subst (λ (s : Slot). t < head_of new (near way s)) (sym (at_front t front.0))
              (not_lower way old new h up (near way (slot_at slots t)) t (h.begins t front.1))
          | inr end ↦ subst (λ (s : Slot). t < head_of new (near way s)) (sym (at_end t end.0)) (omega (arith, newest end.1, end.0))
        ];
    goes_on = λ s t before within a e.
        elim (before_end s within) [
          | inl front ↦
              let t_front : t < length slots = omega (arith, before, front) in
              subst (λ (x : Slot). t < older way x) (sym (at_front s front))
              (h.goes_on s t before front (sym (ap (λ (x : Slot). x.alive) (at_front t t_front)) ∙ a)
              (sym (ap (near way) (at_front t t_front)) ∙ e ∙ ap (near way) (at_front s front)))
          | inr end ↦
              let t_front : t < length slots = omega (arith, before, end) in
              let near_d : near way (slot_at slots t) ≡ near way d = sym (ap (near way) (at_front t t_front)) ∙ e ∙ ap (near way) (at_end s end) in
              subst (λ (x : Slot). t < older way x) (sym (at_end s end))
              (subst (λ n. t < n) (sym own)
              (subst (λ x. t < head_of old x) near_d (h.begins t (sym (ap (λ (x : Slot). x.alive) (at_front t t_front)) ∙ a))))
        ];
    exact = λ item t e.
        elim (up item) [
          | inl was ↦
              let t_front : t < length slots = omega (arith, h.short item, was, e) in
              ap (near way) (at_front t t_front) ∙ h.exact item t (sym was ∙ e)
          | inr now ↦
              let end : length slots ≡ t = omega (arith, now.0, e) in
              ap (near way) (at_end t end) ∙ now.1
        ];
    same = λ s t within e.
        elim (before_end s within) [
          | inl front ↦
              let was : older way (slot_at slots s) ≡ suc t = sym (ap (older way) (at_front s front)) ∙ e in
              let t_front : t < length slots = omega (arith, h.falls s front, was, front) in
              ap (near way) (at_front t t_front) ∙ h.same s t front was ∙ sym (ap (near way) (at_front s front))
          | inr end ↦
              let was : head_of old (near way d) ≡ suc t = sym own ∙ sym (ap (older way) (at_end s end)) ∙ e in
              let t_front : t < length slots = omega (arith, h.short (near way d), was) in
              ap (near way) (at_front t t_front) ∙ h.exact (near way d) t was ∙ sym (ap (near way) (at_end s end))
        ];
    short = λ item.
        elim (up item) [
          | inl e ↦ omega (arith, e, h.short item, length-append slots (d ∷ []))
          | inr e ↦ omega (arith, e.0, length-append slots (d ∷ []))
        ];
    falls = λ s within.
        elim (before_end s within) [
          | inl front ↦ subst (λ (x : Slot). older way x ≤ s) (sym (at_front s front)) (h.falls s front)
          | inr end ↦
              subst (λ (x : Slot). older way x ≤ s) (sym (at_end s end))
              (subst (λ n. n ≤ s) (sym own) (subst (λ n. head_of old (near way d) ≤ n) end (h.short (near way d))))
        ];
  }

  pub IsKept-pushed : (places places' : List (Link × ℕ)) (downs ups downs' ups' : HeadLists) → IsKept slots places downs ups
      → ((t : ℕ) → IsAlive slots t → place_of places' (slot_at slots t).link ≡ place_of places (slot_at slots t).link)
      → (d.alive ≡ true → place_of places' d.link ≡ Some (length slots)) → d.down ≡ head_of downs d.link.upper → d.up ≡ head_of ups d.link.lower
      → Raises Down downs downs' → Raises Up ups ups' → (d.alive ≡ true → length slots < head_of downs' d.link.upper)
      → (d.alive ≡ true → length slots < head_of ups' d.link.lower) → IsKept (slots ++ d ∷ []) places' downs' ups'
  IsKept-pushed places places' downs ups downs' ups' h others newest own_down own_up raise_down raise_up new_down new_up = record {
    found = λ t a.
        elim (alive_cases t a) [
          | inl front ↦
              subst (λ (x : Slot). place_of places' x.link ≡ Some t) (sym (at_front t front.0)) (others t front.1 ∙ h.found t front.1)
          | inr end ↦ subst (λ (x : Slot). place_of places' x.link ≡ Some t) (sym (at_end t end.0)) (newest end.1 ∙ ap Some end.0)
        ];
    below = IsChained-pushed Down downs downs' h.below own_down raise_down new_down;
    over = IsChained-pushed Up ups ups' h.over own_up raise_up new_up;
  }

-- ---- look-ups
pub stands_found : (slots : List Slot) (places : List (Link × ℕ)) (pair : Link)
    → ((t : ℕ) → IsAlive slots t → place_of places (slot_at slots t).link ≡ Some t) → Contains (live slots) pair
    → (t : ℕ) × IsAlive slots t × ((slot_at slots t).link ≡ pair) × (place_of places pair ≡ Some t)
stands_found slots places pair found m =
    let at = live_from slots pair m in (at.0, at.1, at.2, sym (ap (place_of places) at.2) ∙ found at.0 at.1)

-- ---- an item's pairs
pub names_near : (way : Way) (item : ℕ) (s : Slot) → near way s ≡ item → not (names_item item s.link) ≡ false
names_near Down item s e = ap not (or_left (s.link.upper == item) (s.link.lower == item) (alike s.link.upper item e))
names_near Up item s e = ap not (or_right (s.link.upper == item) (s.link.lower == item) (alike s.link.lower item e))

-- where no pair names the item, all stay
pub none_names : (slots : List Slot) (item : ℕ) → ((t : ℕ) → IsAlive slots t → near Down (slot_at slots t) ≢ item)
    → ((t : ℕ) → IsAlive slots t → near Up (slot_at slots t) ≢ item) → filter (λ p. not (names_item item p)) (live slots) ≡ live slots
none_names slots item above below =
    filter_all (λ p. not (names_item item p)) (live slots)
    (All-weaker (Contains (live slots)) (λ p. not (names_item item p) ≡ true)
    (λ p m.
    let at = live_from slots p m in
    names_neither item p (subst (λ (q : Link). q.upper ≢ item) at.2 (above at.0 at.1)) (subst (λ (q : Link). q.lower ≢ item) at.2 (below at.0 at.1)))
    (live slots) (All-contains_itself (live slots)))

-- where the pair is not there, all stay
pub none_same : (pairs : List Link) (pair : Link) → (¬ Contains pairs pair) → filter (λ q. not (same_link q pair)) pairs ≡ pairs
none_same pairs pair none =
    filter_all (λ q. not (same_link q pair)) pairs
    (All-weaker (Contains pairs) (λ q. not (same_link q pair) ≡ true)
    (λ q m. not_true (same_link q pair) (same_link_apart q pair (λ e. none (subst (Contains pairs) e m)))) pairs (All-contains_itself pairs))

pub is_some_iff : {C : Type 0} {F : ℕ → Type 0} (o : Option ℕ) → MatchOption o (¬ C) F → ((t : ℕ) → F t → C) → IsTrue (is_some o) ↔ C
is_some_iff None h there = (λ e. absurd (true≢false (sym e)), λ m. absurd (h m))
is_some_iff (Some t) h there = (λ e. there t h, λ m. refl)

pub found_has : (slots : List Slot) (pair : Link) (t : ℕ) → IsFoundAt slots pair t → Contains (live slots) pair
found_has slots pair t f = subst (Contains (live slots)) f.link_is (live_has slots t f.alive)

raised_by : (b : Bool) (n h h' : ℕ) {P : Type 0} → Decides b P → h' ≡ cond b (n + 1) h → (h' ≡ h) ⊎ ((h' ≡ suc n) × P)
raised_by true n h h' d e = inr (omega (arith, e), d.0 refl)
raised_by false n h h' d e = inl e

pub raised : (old new : HeadLists) (item n : ℕ) → ((q : ℕ) → head_of new q ≡ cond (item == q) (n + 1) (head_of old q)) → (q : ℕ)
    → (head_of new q ≡ head_of old q) ⊎ ((head_of new q ≡ suc n) × (item ≡ q))
raised old new item n put q = raised_by (item == q) n (head_of old q) (head_of new q) (Decides-eqb item q) (put q)

pub raised_here : (old new : HeadLists) (item n : ℕ) → ((q : ℕ) → head_of new q ≡ cond (item == q) (n + 1) (head_of old q)) → n < head_of new item
raised_here old new item n put =
    omega (arith, put item ∙ ap (λ (b : Bool). cond b (n + 1) (head_of old item)) (alike item item refl))

-- ---- one place after another
pub live_more : (slots : List Slot) (i : ℕ) (s : Slot) → i < length slots → s ≡ slot_at slots i → live (take (i + 1) slots) ≡ live (take i slots) ++ live (s ∷ [])
live_more slots i s within read =
    ap live (take_more slots i no_slot within)
    ∙ ap (map (λ (x : Slot). x.link)) (filter-append (λ x. x.alive) (take i slots) (slot_at slots i ∷ []))
    ∙ map-append (λ (x : Slot). x.link) (filter (λ x. x.alive) (take i slots)) (filter (λ x. x.alive) (slot_at slots i ∷ []))
    ∙ ap (λ (x : Slot). live (take i slots) ++ live (x ∷ [])) (sym read)

pub new_to_front : (slots : List Slot) (places : List (Link × ℕ)) (i : ℕ) → ((t : ℕ) → IsAlive slots t → place_of places (slot_at slots t).link ≡ Some t)
    → i < length slots → IsAlive slots i → ¬ Contains (live (take i slots)) (slot_at slots i).link
new_to_front slots places i found within a m =
    let s = live_from (take i slots) (slot_at slots i).link m in
    let before : s.0 < i = omega (arith, alive_within (take i slots) s.0 s.1, length-take-le i slots (omega (arith, within))) in
    let same : slot_at (take i slots) s.0 ≡ slot_at slots s.0 = get_or-take i slots s.0 no_slot before in
    let placed : place_of places (slot_at slots i).link ≡ Some s.0 =
    ap (place_of places) (sym s.2 ∙ ap (λ (x : Slot). x.link) same) ∙ found s.0 (sym (ap (λ (x : Slot). x.alive) same) ∙ s.1) in
    let own = found i a in
    let e : s.0 ≡ i = cc (placed, own) in
    omega (arith, e, before)
