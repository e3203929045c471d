-- Members of a list, all of them or some.
use Rattle.std.proofs.Common.{◌≡◌, Bool, List, [], ◌∷◌, inl, inr, ◌⊎◌, get_or, map, refl, sym, subst, suc, arith}
use Rattle.std.specs.Prelude.{All, Any, Contains, filter}
use Rattle.std.specs.List.{flat_map}
use Rattle.std.proofs.lemmas.List.Concat.{flat_map-cons}
use Rattle.std.proofs.lemmas.List.Elements.{All-nil, All-cons, All-head, All-tail, All-contains, All-contains_itself, All-filter, Contains-append_cases, Contains-append_left, Contains-append_right, Contains-get_or}

module _ {X : Type 0} (P Q : X → Type 0) (xs : List X) (f : (x : X) → Contains xs x → P x → Q x) where
  pub all_more : All P xs → All Q xs
  all_more h = λ k d lt. f (get_or xs k d) (Contains-get_or xs k d lt) (h k d lt)

  pub any_more : Any P xs → Any Q xs
  any_more h = (h.0, h.1, h.2, h.3, f h.1 (h.0, h.2, h.3) h.4)

-- a list of one has that one
pub only : {X : Type 0} (x y : X) → Contains (x ∷ []) y → y ≡ x
only x y m = All-contains (λ z. z ≡ x) (x ∷ []) y (All-cons (λ z. z ≡ x) x [] refl (All-nil (λ z. z ≡ x))) m

-- one part or the other at each element
pub all_or_any : {X : Type 0} (P Q : X → Type 0) (xs : List X) → ((x : X) → Contains xs x → P x ⊎ Q x) → All P xs ⊎ Any Q xs
all_or_any P Q [] h = inl (All-nil P)
all_or_any P Q (x ∷ xs) h =
    elim (h x (0, omega arith, refl)) as (λ _. All P (x ∷ xs) ⊎ Any Q (x ∷ xs)) [
      | inr q ↦ inr (0, x, omega arith, refl, q)
      | inl p ↦ elim (all_or_any P Q xs (λ y m. h y (Contains-append_right (x ∷ []) xs y m))) as (λ _. All P (x ∷ xs) ⊎ Any Q (x ∷ xs)) [
        | inl all ↦ inl (All-cons P x xs p all)
        | inr any ↦ inr (suc any.0, any.1, omega (arith, any.2), any.3, any.4)
      ]
    ]

-- what a filter leaves was there
pub Contains-filtered : {X : Type 0} (p : X → Bool) (xs : List X) (x : X) → Contains (filter p xs) x → Contains xs x
Contains-filtered p xs x h = All-contains (Contains xs) (filter p xs) x (All-filter p (Contains xs) xs (All-contains_itself xs)) h

-- what a map makes of a member
pub Contains-mapped : {X Y : Type 0} (f : X → Y) (xs : List X) (x : X) → Contains xs x → Contains (map f xs) (f x)
Contains-mapped f [] x m = absurd (omega (arith, m.1))
Contains-mapped {X} f (y ∷ xs) x m =
    elim (Contains-append_cases (y ∷ []) xs x m) [
      | inl one ↦ subst (λ (z : X). Contains (map f (y ∷ xs)) (f z)) (sym (only y x one)) (Contains-get_or (f y ∷ map f xs) 0 (f y) (omega arith))
      | inr there ↦ Contains-append_right (f y ∷ []) (map f xs) (f x) (Contains-mapped f xs x there)
    ]

-- a member of mapped ones comes from a member
pub mapped_from : {X Y : Type 0} (f : X → Y) (xs : List X) (y : Y) → Contains (map f xs) y → (x : X) × Contains xs x × (f x ≡ y)
mapped_from f [] y m = absurd (omega (arith, m.1))
mapped_from f (x ∷ xs) y m =
    elim (Contains-append_cases (f x ∷ []) (map f xs) y m) [
      | inl one ↦ (x, Contains-get_or (x ∷ xs) 0 x (omega arith), sym (only (f x) y one))
      | inr there ↦ let rest = mapped_from f xs y there in (rest.0, Contains-append_right (x ∷ []) xs rest.0 rest.1, rest.2)
    ]

-- maps that agree at each member make the same list
pub map_agree : {X Y : Type 0} (f g : X → Y) (xs : List X) → All (λ x. f x ≡ g x) xs → map f xs ≡ map g xs
map_agree f g [] h = refl
map_agree f g (x ∷ xs) h = λ i. All-head (λ y. f y ≡ g y) x xs h i ∷ map_agree f g xs (All-tail (λ y. f y ≡ g y) x xs h) i

-- what a function gives for a member is among all that it gives
pub in_flat_map : {A B : Type 0} (f : A → List B) (xs : List A) (x : A) (y : B) → Contains xs x → Contains (f x) y → Contains (flat_map f xs) y
in_flat_map f [] x y m n = absurd (omega (arith, m.1))
in_flat_map {A} {B} f (z ∷ zs) x y m n =
    subst (λ (ys : List B). Contains ys y) (sym (flat_map-cons f z zs))
    (elim (Contains-append_cases (z ∷ []) zs x m) [
      | inl one ↦ Contains-append_left (f z) (flat_map f zs) y (subst (λ (w : A). Contains (f w) y) (only z x one) n)
      | inr k ↦ Contains-append_right (f z) (flat_map f zs) y (in_flat_map f zs x y k n)
    ])
