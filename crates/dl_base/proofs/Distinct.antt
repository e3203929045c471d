-- Lists without repeats.
use Rattle.std.proofs.Common.{◌≡◌, ◌≢◌, ℕ, ◌+◌, ◌<◌, ◌≤◌, List, [], ◌∷◌, ◌++◌, length, map, take, drop, get_or, ap, ◌∙◌, inl, inr, sym, subst, suc, arith}
use Rattle.std.specs.Prelude.{All, Contains, remove}
use Rattle.std.proofs.lemmas.List.Quantifiers.{all_pairs_push}
use Rattle.std.proofs.lemmas.List.Sorted.{IsPermutation-remove, Contains-permutation, length_permutation}
use Rattle.std.proofs.lemmas.List.{take-append-drop, map-append, drop_more}
use Rattle.std.proofs.lemmas.List.Kept.{AllPairs-cons}
use Rattle.std.proofs.lemmas.List.Elements.{All-head, All-tail, All-map, All-contains_itself, Contains-append_cases, Contains-append_left, Contains-append_right, Contains-get_or}
use Rattle.dl_base.specs.Paths.{IsDistinct}
use Rattle.dl_base.proofs.Members.{all_more, only}

pub distinct_push : {A : Type 0} (xs : List A) (x : A) → IsDistinct xs → (¬ Contains xs x) → IsDistinct (xs ++ x ∷ [])
distinct_push xs x h new =
    all_pairs_push (λ a b. a ≢ b) xs x h (λ k d lt e. new (subst (λ y. Contains xs y) e (Contains-get_or xs k d lt)))

pub distinct_tail : {A : Type 0} (x : A) (xs : List A) → IsDistinct (x ∷ xs) → IsDistinct xs
distinct_tail x xs h = λ i j d before within. h (suc i) (suc j) d (omega (arith, before)) (omega (arith, within))

pub distinct_head : {A : Type 0} (x : A) (xs : List A) → IsDistinct (x ∷ xs) → ¬ Contains xs x
distinct_head x xs h m = h 0 (suc m.0) x (omega arith) (omega (arith, m.1)) (sym m.2)

-- a list without repeats is no longer than one that has all of it
pub no_longer : {A : Type 0} (xs ys : List A) → IsDistinct xs → All (Contains ys) xs → length xs ≤ length ys
no_longer [] ys h inside = omega arith
no_longer {A} (x ∷ xs) ys h inside =
    let m = All-head (Contains ys) x xs inside in
    let moved = IsPermutation-remove ys m.0 x m.1 (sym m.2) in
    let rest = no_longer xs (remove ys m.0) (distinct_tail x xs h)
    (all_more (Contains ys) (Contains (remove ys m.0)) xs
    (λ y k n. elim (Contains-append_cases (x ∷ []) (remove ys m.0) y (Contains-permutation ys (x ∷ remove ys m.0) y moved n)) [
      | inl one ↦ absurd (distinct_head x xs h (subst (λ (z : A). Contains xs z) (only x y one) k))
      | inr there ↦ there
    ]) (All-tail (Contains ys) x xs inside)) in
    omega (arith, rest, length_permutation ys (x ∷ remove ys m.0) moved)

pub distinct_nil : {A : Type 0} → IsDistinct {A = A} []
distinct_nil = λ i j d before within. absurd (omega (arith, before, within))

pub distinct_cons : {A : Type 0} (x : A) (xs : List A) → (¬ Contains xs x) → IsDistinct xs → IsDistinct (x ∷ xs)
distinct_cons x xs new h =
    AllPairs-cons (λ a b. a ≢ b) x xs (λ k d lt e. new (subst (λ y. Contains xs y) (sym e) (Contains-get_or xs k d lt))) h

-- a map that keeps the members apart keeps a list without repeats
pub distinct_map : {A B : Type 0} (f : A → B) (xs : List A)
    → ((x y : A) → Contains xs x → Contains xs y → f x ≡ f y → x ≡ y) → IsDistinct xs → IsDistinct (map f xs)
distinct_map f [] apart h = distinct_nil
distinct_map {A} f (x ∷ xs) apart h =
    AllPairs-cons (λ a b. a ≢ b) (f x) (map f xs)
    (All-map (λ b. f x ≢ b) f xs
    (all_more (Contains xs) (λ y. f x ≢ f y) xs
    (λ y m _ e. distinct_head x xs h
    (subst (λ (z : A). Contains xs z)
    (sym (apart x y (Contains-append_left (x ∷ []) xs x (Contains-get_or (x ∷ []) 0 x (omega arith))) (Contains-append_right (x ∷ []) xs y m) e)) m))
    (All-contains_itself xs)))
    (distinct_map f xs
    (λ y z m n. apart y z (Contains-append_right (x ∷ []) xs y m) (Contains-append_right (x ∷ []) xs z n))
    (distinct_tail x xs h))

-- what comes from a list without repeats joined of two
pub distinct_right : {A : Type 0} (xs ys : List A) → IsDistinct (xs ++ ys) → IsDistinct ys
distinct_right [] ys h = h
distinct_right (x ∷ xs) ys h = distinct_right xs ys (distinct_tail x (xs ++ ys) h)

pub distinct_left : {A : Type 0} (xs ys : List A) → IsDistinct (xs ++ ys) → IsDistinct xs
distinct_left [] ys h = distinct_nil
distinct_left (x ∷ xs) ys h =
    distinct_cons x xs (λ m. distinct_head x (xs ++ ys) h (Contains-append_left xs ys x m))
    (distinct_left xs ys (distinct_tail x (xs ++ ys) h))

pub distinct_apart : {A : Type 0} (xs ys : List A) (x : A) → IsDistinct (xs ++ ys) → Contains xs x → ¬ Contains ys x
distinct_apart [] ys x h m n = absurd (omega (arith, m.1))
distinct_apart {A} (y ∷ xs) ys x h m n =
    elim (Contains-append_cases (y ∷ []) xs x m) [
      | inl one ↦
          distinct_head y (xs ++ ys) h (subst (λ (z : A). Contains (xs ++ ys) z) (only y x one) (Contains-append_right xs ys x n))
      | inr there ↦ distinct_apart xs ys x (distinct_tail y (xs ++ ys) h) there n
    ]

pub distinct_join : {A : Type 0} (xs ys : List A) → IsDistinct xs → IsDistinct ys → ((x : A) → Contains xs x → ¬ Contains ys x)
    → IsDistinct (xs ++ ys)
distinct_join [] ys h k apart = k
distinct_join (x ∷ xs) ys h k apart =
    distinct_cons x (xs ++ ys)
    (λ m. elim (Contains-append_cases xs ys x m) [
      | inl left ↦ distinct_head x xs h left
      | inr right ↦ apart x (Contains-append_left (x ∷ []) xs x (Contains-get_or (x ∷ []) 0 x (omega arith))) right
    ])
    (distinct_join xs ys (distinct_tail x xs h) k (λ y m. apart y (Contains-append_right (x ∷ []) xs y m)))

-- the two parts of a list without repeats may change places
pub distinct_turned : {A : Type 0} (xs ys : List A) → IsDistinct (xs ++ ys) → IsDistinct (ys ++ xs)
distinct_turned xs ys h =
    distinct_join ys xs (distinct_right xs ys h) (distinct_left xs ys h) (λ x m n. distinct_apart xs ys x h n m)

-- where the images are distinct, none stands among those of earlier members
pub distinct_front : {A B : Type 0} (f : A → B) (xs : List A) (i : ℕ) (d : A) → IsDistinct (map f xs) → i < length xs
    → ¬ Contains (map f (take i xs)) (f (get_or xs i d))
distinct_front {A} {B} f xs i d h within m =
    let split : map f xs ≡ map f (take i xs) ++ map f (drop i xs) =
    ap (map f) (sym (take-append-drop i xs)) ∙ map-append f (take i xs) (drop i xs) in
    let here : Contains (map f (drop i xs)) (f (get_or xs i d)) =
    subst (λ (l : List A). Contains (map f l) (f (get_or xs i d))) (sym (drop_more xs i d within))
    (Contains-get_or (f (get_or xs i d) ∷ map f (drop (i + 1) xs)) 0 (f (get_or xs i d)) (omega arith)) in
    distinct_apart (map f (take i xs)) (map f (drop i xs)) (f (get_or xs i d)) (subst (λ (l : List B). IsDistinct l) split h) m here
