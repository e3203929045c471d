-- What is there in a list with empty numbers, as it grows and items go.
use Rattle.std.proofs.Common.{◌≡◌, ◌≢◌, ℕ, zero, suc, ◌+◌, ◌<◌, ◌≤◌, Bool, true, false, not, cond, Option, None, Some, List, [], ◌∷◌, ◌++◌, ◌⊎◌, length, set, map, refl, sym, ap, ◌∙◌, subst, arith, inl, inr, get_or-set_other}
use Rattle.std.specs.Prelude.{Contains, filter, option_map}
use Rattle.std.specs.Bool.{Decides}
use Rattle.std.proofs.lemmas.Bool.{cases_lt}
use Rattle.std.proofs.lemmas.List.{get_or_past, get_or_append_left, get_or_push}
use Rattle.std.proofs.lemmas.List.Elements.{Contains-append_cases, Contains-append_right}
use Rattle.dl_base.specs.Paths.{IsDistinct}
use Rattle.dl_base.proofs.Distinct.{distinct_head, distinct_tail}
use Rattle.dl_base.proofs.Filters.{false_unless}
use Rattle.dl_base.proofs.Members.{only}
use Rattle.dl_rows.specs.There.{there, HasNumber, IsOnce, kept_if}

module _ {A : Type 0} where
  -- ---- numbers of items

  pub has_within : (xs : List (Option A)) (x : A) (n : ℕ) → HasNumber xs x n → n < length xs
  has_within xs x n h =
      elim (cases_lt n (length xs)) [
        | inl lt ↦ lt
        | inr past ↦ let none : None ≡ Some x = sym (get_or_past xs n None past) ∙ h in cc
      ]

  -- one more number, with an item or without, leaves the others
  pub has_push : (xs : List (Option A)) (o : Option A) (x : A) (n : ℕ) → HasNumber xs x n → HasNumber (xs ++ o ∷ []) x n
  has_push xs o x n h = get_or_append_left xs (o ∷ []) None n (has_within xs x n h) ∙ h

  pub push_has : (xs : List (Option A)) (o : Option A) (x : A) (n : ℕ) → HasNumber (xs ++ o ∷ []) x n
      → HasNumber xs x n ⊎ ((n ≡ length xs) × (o ≡ Some x))
  push_has [] o x zero h = inr (refl, h)
  push_has [] o x (suc n) h = cc
  push_has (y ∷ xs) o x zero h = inl h
  push_has (y ∷ xs) o x (suc n) h =
      elim (push_has xs o x n h) [
        | inl old ↦ inl old
        | inr new ↦ inr (ap suc new.0, new.1)
      ]

  pub has_last : (xs : List (Option A)) (x : A) → HasNumber (xs ++ Some x ∷ []) x (length xs)
  has_last xs x = get_or_push xs (Some x) None (length xs) refl

  -- an empty number leaves the others
  pub has_drop : (xs : List (Option A)) (k : ℕ) (x : A) (n : ℕ) → HasNumber xs x n → n ≢ k → HasNumber (set xs k None) x n
  has_drop xs k x n h other = get_or-set_other xs k n None None other ∙ h

  pub drop_has : (xs : List (Option A)) (k : ℕ) (x : A) (n : ℕ) → HasNumber (set xs k None) x n → HasNumber xs x n × (n ≢ k)
  drop_has [] k x n h = cc
  drop_has (y ∷ xs) zero x zero h = cc
  drop_has (y ∷ xs) zero x (suc n) h = (h, λ e. absurd (omega (arith, e)))
  drop_has (y ∷ xs) (suc k) x zero h = (h, λ e. absurd (omega (arith, e)))
  drop_has (y ∷ xs) (suc k) x (suc n) h =
      let rest = drop_has xs k x n h in
      (rest.0, λ e. rest.1 (omega (arith, e)))

  -- ---- those that are there, and their numbers

  pub has_there : (xs : List (Option A)) (x : A) (n : ℕ) → HasNumber xs x n → Contains (there xs) x
  has_there [] x n h = cc
  has_there (None ∷ xs) x zero h = cc
  has_there (None ∷ xs) x (suc n) h = has_there xs x n h
  has_there (Some y ∷ xs) x zero h = let same : y ≡ x = cc in (0, omega arith, same)
  has_there (Some y ∷ xs) x (suc n) h = Contains-append_right (y ∷ []) (there xs) x (has_there xs x n h)

  pub there_has : (xs : List (Option A)) (x : A) → Contains (there xs) x → (n : ℕ) × HasNumber xs x n
  there_has [] x m = absurd (omega (arith, m.1))
  there_has (None ∷ xs) x m = let rest = there_has xs x m in (suc rest.0, rest.1)
  there_has (Some y ∷ xs) x m =
      elim (Contains-append_cases (y ∷ []) (there xs) x m) [
        | inl one ↦ (0, ap Some (sym (only y x one)))
        | inr more ↦ let rest = there_has xs x more in (suc rest.0, rest.1)
      ]

  -- ---- no item has two numbers

  pub distinct_once : (xs : List (Option A)) → IsDistinct (there xs) → IsOnce xs
  distinct_once [] h x m n has has' = cc
  distinct_once (None ∷ xs) h x zero n has has' = cc
  distinct_once (None ∷ xs) h x (suc m) zero has has' = cc
  distinct_once (None ∷ xs) h x (suc m) (suc n) has has' = ap suc (distinct_once xs h x m n has has')
  distinct_once (Some y ∷ xs) h x zero zero has has' = refl
  distinct_once (Some y ∷ xs) h x zero (suc n) has has' =
      let here : y ≡ x = cc in
      absurd (distinct_head y (there xs) h (subst (λ (z : A). Contains (there xs) z) (sym here) (has_there xs x n has')))
  distinct_once (Some y ∷ xs) h x (suc m) zero has has' =
      let here : y ≡ x = cc in
      absurd (distinct_head y (there xs) h (subst (λ (z : A). Contains (there xs) z) (sym here) (has_there xs x m has)))
  distinct_once (Some y ∷ xs) h x (suc m) (suc n) has has' =
      ap suc (distinct_once xs (distinct_tail y (there xs) h) x m n has has')

  pub once_push : (xs : List (Option A)) (x : A) → IsOnce xs → (¬ Contains (there xs) x) → IsOnce (xs ++ Some x ∷ [])
  once_push xs x h new y m n has has' =
      elim (push_has xs (Some x) y m has) [
        | inl at ↦ elim (push_has xs (Some x) y n has') [
          | inl at' ↦ h y m n at at'
          | inr last ↦ let same : x ≡ y = cc in absurd (new (subst (λ (z : A). Contains (there xs) z) (sym same) (has_there xs y m at)))
        ]
        | inr last ↦ elim (push_has xs (Some x) y n has') [
          | inl at' ↦ let same : x ≡ y = cc in absurd (new (subst (λ (z : A). Contains (there xs) z) (sym same) (has_there xs y n at')))
          | inr last' ↦ last.0 ∙ sym last'.0
        ]
      ]

  pub once_drop : (xs : List (Option A)) (k : ℕ) → IsOnce xs → IsOnce (set xs k None)
  once_drop xs k h y m n has has' = h y m n (drop_has xs k y m has).0 (drop_has xs k y n has').0

  -- ---- one more goes last

  pub there_push : (xs : List (Option A)) (x : A) → there (xs ++ Some x ∷ []) ≡ there xs ++ x ∷ []
  there_push [] x = refl
  there_push (None ∷ xs) x = there_push xs x
  there_push (Some y ∷ xs) x = ap (λ (l : List A). y ∷ l) (there_push xs x)

  -- ---- some go

  pub there_filter : (p : A → Bool) (xs : List (Option A)) → there (map (kept_if p) xs) ≡ filter p (there xs)
  there_filter p [] = refl
  there_filter p (None ∷ xs) = there_filter p xs
  there_filter p (Some x ∷ xs) = by (p x) (there_filter p xs)
    where
      by : (b : Bool) → there (map (kept_if p) xs) ≡ filter p (there xs)
          → there (cond b (Some x) None ∷ map (kept_if p) xs) ≡ cond b (x ∷ filter p (there xs)) (filter p (there xs))
      by true e = ap (λ (l : List A). x ∷ l) e
      by false e = e

  kept_gone : (p : A → Bool) (o : Option A) → ((x : A) → o ≡ Some x → p x ≡ false) → kept_if p o ≡ None
  kept_gone p None h = refl
  kept_gone p (Some x) h = ap (λ b. cond b (Some x) None) (h x refl)

  pub kept_stays : (p : A → Bool) (o : Option A) → ((x : A) → o ≡ Some x → p x ≡ true) → kept_if p o ≡ o
  kept_stays p None h = refl
  kept_stays p (Some x) h = ap (λ b. cond b (Some x) None) (h x refl)

  pub all_stay : (p : A → Bool) (xs : List (Option A)) → ((x : A) (n : ℕ) → HasNumber xs x n → p x ≡ true) → map (kept_if p) xs ≡ xs
  all_stay p [] h = refl
  all_stay p (o ∷ xs) h = λ i. kept_stays p o (λ x e. h x 0 e) i ∷ all_stay p xs (λ x n has. h x (suc n) has) i

  -- only what has this number fails a test
  pub one_goes : (p : A → Bool) (xs : List (Option A)) (k : ℕ) → ((x : A) → HasNumber xs x k → p x ≡ false)
      → ((x : A) (n : ℕ) → HasNumber xs x n → n ≢ k → p x ≡ true) → set xs k None ≡ map (kept_if p) xs
  one_goes p [] k gone stay = refl
  one_goes p (o ∷ xs) zero gone stay =
      λ i. sym (kept_gone p o gone) i
      ∷ sym (all_stay p xs (λ x n has. stay x (suc n) has (λ e. absurd (omega (arith, e))))) i
  one_goes p (o ∷ xs) (suc k) gone stay =
      λ i. sym (kept_stays p o (λ x e. stay x 0 e (λ e'. absurd (omega (arith, e'))))) i
      ∷ one_goes p xs k gone (λ x n has other. stay x (suc n) has (λ e. other (omega (arith, e)))) i

  pub there_drop_by : (p : A → Bool) (xs : List (Option A)) (k : ℕ) → ((x : A) → HasNumber xs x k → p x ≡ false)
      → ((x : A) (n : ℕ) → HasNumber xs x n → n ≢ k → p x ≡ true) → there (set xs k None) ≡ filter p (there xs)
  there_drop_by p xs k gone stay = ap there (one_goes p xs k gone stay) ∙ there_filter p xs

  -- where no two have one key, what goes is what has the key
  module _ {K : Type 0} (key : A → K) (eq : K → K → Bool) (same : (a b : K) → Decides (eq a b) (a ≡ b)) (xs : List (Option A)) (x : A) (k : ℕ) where
    pub there_drop_key : ((y : A) (n : ℕ) → HasNumber xs y n → key y ≡ key x → n ≡ k) → HasNumber xs x k
        → there (set xs k None) ≡ filter (λ y. not (eq (key y) (key x))) (there xs)
    there_drop_key once has =
        there_drop_by (λ y. not (eq (key y) (key x))) xs k
        (λ y at. let here : x ≡ y = cc in ap not ((same (key y) (key x)).1 (sym (ap key here))))
        (λ y n at other. ap not (false_unless (eq (key y) (key x)) (same (key y) (key x)) (λ e. other (once y n at e))))

  pub there_drop : (eq : A → A → Bool) → ((a b : A) → Decides (eq a b) (a ≡ b)) → (xs : List (Option A)) (x : A) (k : ℕ)
      → IsOnce xs → HasNumber xs x k → there (set xs k None) ≡ filter (λ y. not (eq y x)) (there xs)
  there_drop eq same xs x k once has =
      there_drop_key (λ y. y) eq same xs x k (λ y n at e. once x n k (at ∙ ap Some e) has) has

  -- ---- how many are there

  pub live_push : (xs : List (Option A)) (x : A) → length (there (xs ++ Some x ∷ [])) ≡ length (there xs) + 1
  live_push [] x = refl
  live_push (None ∷ xs) x = live_push xs x
  live_push (Some y ∷ xs) x = omega (arith, live_push xs x)

  pub live_drop : (xs : List (Option A)) (x : A) (k : ℕ) → HasNumber xs x k → length (there (set xs k None)) + 1 ≡ length (there xs)
  live_drop [] x k h = cc
  live_drop (None ∷ xs) x zero h = cc
  live_drop (None ∷ xs) x (suc k) h = live_drop xs x k h
  live_drop (Some y ∷ xs) x zero h = omega arith
  live_drop (Some y ∷ xs) x (suc k) h = omega (arith, live_drop xs x k h)

  pub live_most : (xs : List (Option A)) → length (there xs) ≤ length xs
  live_most [] = omega arith
  live_most (None ∷ xs) = omega (arith, live_most xs)
  live_most (Some y ∷ xs) = omega (arith, live_most xs)

-- what is there, written otherwise
pub there_map : {A B : Type 0} (f : A → B) (xs : List (Option A)) → there (map (option_map f) xs) ≡ map f (there xs)
there_map f [] = refl
there_map f (None ∷ xs) = there_map f xs
there_map {A} {B} f (Some x ∷ xs) = ap (λ (l : List B). f x ∷ l) (there_map f xs)

-- where no number is empty
pub there_some : {A : Type 0} (xs : List A) → there (map Some xs) ≡ xs
there_some [] = refl
there_some {A} (x ∷ xs) = ap (λ (l : List A). x ∷ l) (there_some xs)
