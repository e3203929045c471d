-- Tests of some member or of all members of a list.
use Rattle.std.proofs.lemmas.List.Folds.{list_any_more}
use Rattle.std.proofs.Common.{◌≡◌, ℕ, ◌<◌, ◌+◌, length, take, get_or, Bool, true, false, cond, not, ◌&&◌, ◌||◌, List, [], ◌∷◌, map, refl, sym, ap, ◌∙◌}
use Rattle.std.specs.Prelude.{filter}
use Rattle.std.specs.List.{list_any, list_all}

not_and : (a b : Bool) → (a && not b) ≡ not (not a || b)
not_and true b = refl
not_and false b = refl

module _ {X : Type 0} where
  pub any_congr : (p q : X → Bool) → ((x : X) → p x ≡ q x) → (xs : List X) → list_any p xs ≡ list_any q xs
  any_congr p q h [] = refl
  any_congr p q h (x ∷ xs) = λ i. h x i || any_congr p q h xs i

  pub all_congr : (p q : X → Bool) → ((x : X) → p x ≡ q x) → (xs : List X) → list_all p xs ≡ list_all q xs
  all_congr p q h [] = refl
  all_congr p q h (x ∷ xs) = λ i. h x i && all_congr p q h xs i

  -- all pass where not some fails
  pub all_is : (p : X → Bool) (xs : List X) → list_all p xs ≡ not (list_any (λ x. not (p x)) xs)
  all_is p [] = refl
  all_is p (x ∷ xs) = ap (λ b. p x && b) (all_is p xs) ∙ not_and (p x) (list_any (λ y. not (p y)) xs)

  any_kept : (g : X → Bool) (b : Bool) (x : X) (xs : List X) → list_any g (cond b (x ∷ xs) xs) ≡ ((b && g x) || list_any g xs)
  any_kept g true x xs = refl
  any_kept g false x xs = refl

  -- some of those that a filter leaves
  pub any_filter : (g p : X → Bool) (xs : List X) → list_any g (filter p xs) ≡ list_any (λ x. p x && g x) xs
  any_filter g p [] = refl
  any_filter g p (x ∷ xs) = any_kept g (p x) x (filter p xs) ∙ ap (λ b. (p x && g x) || b) (any_filter g p xs)

  pub and_any : (b : Bool) (g : X → Bool) (xs : List X) → (b && list_any g xs) ≡ list_any (λ x. b && g x) xs
  and_any true g xs = refl
  and_any false g [] = refl
  and_any false g (x ∷ xs) = and_any false g xs

pub any_map : {X Y : Type 0} (g : Y → Bool) (f : X → Y) (xs : List X) → list_any g (map f xs) ≡ list_any (λ x. g (f x)) xs
any_map g f [] = refl
any_map g f (x ∷ xs) = ap (λ b. g (f x) || b) (any_map g f xs)

or_middle : (a b c d : Bool) → ((a || b) || (c || d)) ≡ ((a || c) || (b || d))
or_middle true b c d = refl
or_middle false true true d = refl
or_middle false true false d = refl
or_middle false false c d = refl

module _ {X Y : Type 0} (r : X → Y → Bool) where
  any_none : (ys : List Y) → list_any (λ y. list_any (λ x. r x y) []) ys ≡ false
  any_none [] = refl
  any_none (y ∷ ys) = any_none ys

  any_both : (x : X) (xs : List X) (ys : List Y) → (list_any (r x) ys || list_any (λ y. list_any (λ z. r z y) xs) ys) ≡ list_any (λ y. list_any (λ z. r z y) (x ∷ xs)) ys
  any_both x xs [] = refl
  any_both x xs (y ∷ ys) =
      or_middle (r x y) (list_any (r x) ys) (list_any (λ z. r z y) xs) (list_any (λ y. list_any (λ z. r z y) xs) ys)
      ∙ ap (λ b. (r x y || list_any (λ z. r z y) xs) || b) (any_both x xs ys)

  -- some of the one with some of the other, in either order
  pub any_swap : (xs : List X) (ys : List Y) → list_any (λ x. list_any (r x) ys) xs ≡ list_any (λ y. list_any (λ x. r x y) xs) ys
  any_swap [] ys = sym (any_none ys)
  any_swap (x ∷ xs) ys = ap (λ b. list_any (r x) ys || b) (any_swap xs ys) ∙ any_both x xs ys

pub and_true : (b : Bool) → (b && true) ≡ b
and_true true = refl
and_true false = refl

pub or_false : (b : Bool) → (b || false) ≡ b
or_false true = refl
or_false false = refl

pub and_false : (b : Bool) → (b && false) ≡ false
and_false true = refl
and_false false = refl

pub and_turned : (a b : Bool) → (a && b) ≡ (b && a)
and_turned true b = sym (and_true b)
and_turned false b = sym (and_false b)

pub and_assoc : (a b c : Bool) → ((a && b) && c) ≡ (a && (b && c))
and_assoc true b c = refl
and_assoc false b c = refl

pub or_assoc : (a b c : Bool) → ((a || b) || c) ≡ (a || (b || c))
or_assoc true b c = refl
or_assoc false b c = refl

pub any_false : {X : Type 0} (xs : List X) → list_any (λ x. false) xs ≡ false
any_false [] = refl
any_false (x ∷ xs) = any_false xs

or_true : (b : Bool) → true ≡ (b || true)
or_true true = refl
or_true false = refl

-- what a set has once something is put in, or where nothing is
pub put_in : (new old same passes : Bool) → new ≡ cond same true old → passes ≡ true → new ≡ (old || (same && passes))
put_in new old true passes h i = h ∙ or_true old ∙ ap (λ b. old || b) (sym i)
put_in new old false passes h i = h ∙ sym (or_false old)

pub left_out : (old same passes : Bool) → passes ≡ false → old ≡ (old || (same && passes))
left_out old same passes i = sym (ap (λ b. old || (same && b)) i ∙ ap (λ b. old || b) (and_false same) ∙ or_false old)

-- one more member tried
pub any_more : {X : Type 0} (p : X → Bool) (xs : List X) (i : ℕ) (x : X) → i < length xs → x ≡ get_or xs i x → (old new : Bool)
    → old ≡ list_any p (take i xs) → new ≡ (old || p x) → new ≡ list_any p (take (i + 1) xs)
any_more p xs i x within item old new h step =
    step ∙ ap (λ b. b || p x) h ∙ ap (λ y. list_any p (take i xs) || p y) item ∙ sym (list_any_more p xs i x within)
