-- What a filter leaves, and removals as filters.
use Rattle.std.proofs.Common.{◌≡◌, ◌≢◌, ℕ, zero, suc, ◌<◌, ◌≤◌, Bool, true, false, cond, List, [], ◌∷◌, length, map, get_or, inl, inr, refl, sym, ap, subst, ◌∙◌, not, true≢false, arith}
use Rattle.std.specs.Prelude.{All, Contains, filter, remove}
use Rattle.std.specs.Bool.{Decides}
use Rattle.std.specs.Set.{remove_key}
use Rattle.std.proofs.lemmas.List.Elements.{All-head, All-tail, All-contains_itself, Contains-append_right, Contains-append_cases, Contains-get_or}
use Rattle.std.proofs.lemmas.List.{get_or-map, length-map, map-id}
use Rattle.dl_base.specs.Paths.{IsDistinct}
use Rattle.dl_base.proofs.Members.{all_more, only, Contains-mapped}
use Rattle.dl_base.proofs.Distinct.{distinct_head, distinct_tail}

pub false_unless : {P : Type 0} (b : Bool) → Decides b P → (¬ P) → b ≡ false
false_unless true d fails = absurd (fails (d.0 refl))
false_unless false d fails = refl

-- a filter that passes every member leaves the list
pub filter_all : {X : Type 0} (p : X → Bool) (xs : List X) → All (λ x. p x ≡ true) xs → filter p xs ≡ xs
filter_all p [] h = refl
filter_all p (x ∷ xs) h =
    ap (λ b. cond b (x ∷ filter p xs) (filter p xs)) (All-head (λ y. p y ≡ true) x xs h)
    ∙ ap (λ l. x ∷ l) (filter_all p xs (All-tail (λ y. p y ≡ true) x xs h))

pub length-filter_le : {X : Type 0} (p : X → Bool) (xs : List X) → length (filter p xs) ≤ length xs
length-filter_le p [] = omega arith
length-filter_le p (x ∷ xs) = by (p x) (length-filter_le p xs)
  where
    by : (b : Bool) → length (filter p xs) ≤ length xs → length (cond b (x ∷ filter p xs) (filter p xs)) ≤ length (x ∷ xs)
    by true h = omega (arith, h)
    by false h = omega (arith, h)

-- a filter keeps the members that pass
pub Contains-kept : {X : Type 0} (p : X → Bool) (xs : List X) (x : X) → Contains xs x → p x ≡ true → Contains (filter p xs) x
Contains-kept p [] x m h = absurd (omega (arith, m.1))
Contains-kept {X} p (y ∷ xs) x m h =
    elim (Contains-append_cases (y ∷ []) xs x m) as (λ _. Contains (filter p (y ∷ xs)) x) [
      | inl one ↦
          let passes : p y ≡ true = subst (λ (z : X). p z ≡ true) (only y x one) h in
          subst (λ (l : List X). Contains l x) (sym (ap (λ b. cond b (y ∷ filter p xs) (filter p xs)) passes))
          (subst (λ (z : X). Contains (y ∷ filter p xs) z) (sym (only y x one)) (Contains-get_or (y ∷ filter p xs) 0 y (omega arith)))
      | inr there ↦ by (p y) (Contains-kept p xs x there h)
    ]
  where
    by : (b : Bool) → Contains (filter p xs) x → Contains (cond b (y ∷ filter p xs) (filter p xs)) x
    by true k = Contains-append_right (y ∷ []) (filter p xs) x k
    by false k = k

-- a filter of mapped members is a map of filtered ones
pub filter_mapped : {X Y : Type 0} (f : X → Y) (p : Y → Bool) (q : X → Bool) (xs : List X) → All (λ x. p (f x) ≡ q x) xs
    → filter p (map f xs) ≡ map f (filter q xs)
filter_mapped f p q [] h = refl
filter_mapped f p q (x ∷ xs) h =
    ap (λ b. cond b (f x ∷ filter p (map f xs)) (filter p (map f xs))) (All-head (λ y. p (f y) ≡ q y) x xs h)
    ∙ by (q x) (filter_mapped f p q xs (All-tail (λ y. p (f y) ≡ q y) x xs h))
  where
    by : (b : Bool) → filter p (map f xs) ≡ map f (filter q xs)
        → cond b (f x ∷ filter p (map f xs)) (filter p (map f xs)) ≡ map f (cond b (x ∷ filter q xs) (filter q xs))
    by true e = ap (λ l. f x ∷ l) e
    by false e = e

pub map-remove : {X Y : Type 0} (f : X → Y) (xs : List X) (at : ℕ) → map f (remove xs at) ≡ remove (map f xs) at
map-remove f [] zero = refl
map-remove f [] (suc n) = refl
map-remove f (x ∷ xs) zero = refl
map-remove f (x ∷ xs) (suc n) = ap (λ l. f x ∷ l) (map-remove f xs n)

module _ {X K : Type 0} (key : X → K) (eq : K → K → Bool) (same : (a b : K) → Decides (eq a b) (a ≡ b)) (k : K) where
  -- where no member has the key, a filter on that key leaves the list
  pub filter_absent : (xs : List X) → (¬ Contains (map key xs) k) → filter (λ x. not (eq (key x) k)) xs ≡ xs
  filter_absent xs none =
      filter_all (λ x. not (eq (key x) k)) xs
      (all_more (Contains xs) (λ x. not (eq (key x) k) ≡ true) xs
      (λ x m _. ap not (false_unless (eq (key x) k) (same (key x) k) (λ e. none (subst (λ (z : K). Contains (map key xs) z) e (Contains-mapped key xs x m)))))
      (All-contains_itself xs))

  -- where the keys are distinct, removing the member with a key is a filter on that key
  pub remove_is_filter : (xs : List X) (at : ℕ) (d : X) → IsDistinct (map key xs) → at < length xs → key (get_or xs at d) ≡ k
      → remove xs at ≡ filter (λ x. not (eq (key x) k)) xs
  remove_is_filter [] at d distinct within e = absurd (omega (arith, within))
  remove_is_filter (x ∷ xs) zero d distinct within e =
      sym (ap (λ b. cond (not b) (x ∷ filter (λ y. not (eq (key y) k)) xs) (filter (λ y. not (eq (key y) k)) xs)) ((same (key x) k).1 e)
      ∙ filter_absent xs (subst (λ (z : K). ¬ Contains (map key xs) z) e (distinct_head (key x) (map key xs) distinct)))
  remove_is_filter (x ∷ xs) (suc n) d distinct within e =
      let other : key x ≡ k → ⊥ =
      λ here. distinct_head (key x) (map key xs) distinct
      (subst (λ (z : K). Contains (map key xs) z) (get_or-map key xs n d k (omega (arith, within)) ∙ e ∙ sym here)
      (Contains-get_or (map key xs) n k (omega (arith, within, length-map xs key)))) in
      ap (λ l. x ∷ l) (remove_is_filter xs n d (distinct_tail (key x) (map key xs) distinct) (omega (arith, within)) e)
      ∙ sym (ap (λ b. cond (not b) (x ∷ filter (λ y. not (eq (key y) k)) xs) (filter (λ y. not (eq (key y) k)) xs))
      (false_unless (eq (key x) k) (same (key x) k) other))

module _ {X : Type 0} (eq : X → X → Bool) (same : (a b : X) → Decides (eq a b) (a ≡ b)) (k : X) where
  -- in a list without repeats, removing a value is a filter
  pub remove_key_is_filter : (xs : List X) → IsDistinct xs → remove_key (eq k) xs ≡ filter (λ x. not (eq x k)) xs
  remove_key_is_filter [] h = refl
  remove_key_is_filter (x ∷ xs) h =
      elim (eq k x) as (λ b. eq k x ≡ b → cond b xs (x ∷ remove_key (eq k) xs) ≡ filter (λ y. not (eq y k)) (x ∷ xs)) [
        | true ↦ λ e.
            let there : k ≡ x = (same k x).0 e in
            sym (ap (λ b. cond (not b) (x ∷ filter (λ y. not (eq y k)) xs) (filter (λ y. not (eq y k)) xs)) ((same x k).1 (sym there))
            ∙ filter_absent (λ (y : X). y) eq same k xs
            (subst (λ (l : List X). ¬ Contains l k) (sym (map-id xs)) (subst (λ (z : X). ¬ Contains xs z) (sym there) (distinct_head x xs h))))
        | false ↦ λ e.
            let other : x ≡ k → ⊥ = λ t. true≢false (sym ((same k x).1 (sym t)) ∙ e) in
            ap (λ l. x ∷ l) (remove_key_is_filter xs (distinct_tail x xs h))
            ∙ sym (ap (λ b. cond (not b) (x ∷ filter (λ y. not (eq y k)) xs) (filter (λ y. not (eq y k)) xs)) (false_unless (eq x k) (same x k) other))
      ] refl
