-- Maps, filters and numbers in lists.
use Rattle.std.proofs.Common.{◌≡◌, ◌≢◌, ℕ, Bool, true, false, List, [], ◌∷◌, ◌++◌, map, refl, ap, ◌∙◌}
use Rattle.std.specs.Prelude.{All, filter, not, ◌&&◌, ◌==◌, ◌||◌}
use Rattle.std.specs.Bool.{Decides}
use Rattle.std.proofs.lemmas.Bool.Decides.{Decides-eqb}
use Rattle.std.proofs.lemmas.List.Elements.{All-head, All-tail}
use Rattle.std.specs.Cmp.{nat_eq_equiv}
use Rattle.std.proofs.lemmas.Map.Made.{is_member-filter}
use Rattle.dl_rows.specs.Counting.{is_in}

pub map_agree : {X Y : Type 0} (f g : X → Y) (xs : List X) → All (λ x. f x ≡ g x) xs → map f xs ≡ map g xs
map_agree f g [] h = refl
map_agree f g (x ∷ xs) h = λ i. All-head (λ y. f y ≡ g y) x xs h i ∷ map_agree f g xs (All-tail (λ y. f y ≡ g y) x xs h) i

pub false_from : {P : Type 0} (b : Bool) → Decides b P → (¬ P) → b ≡ false
false_from true d fails = absurd (fails (d.0 refl))
false_from false d fails = refl

pub differ : (a b : ℕ) → a ≢ b → (a == b) ≡ false
differ a b h = false_from (a == b) (Decides-eqb a b) h

pub alike : (a b : ℕ) → a ≡ b → (a == b) ≡ true
alike a b h = (Decides-eqb a b).1 h

or_true : (b : Bool) → (b || true) ≡ true
or_true true = refl
or_true false = refl

pub and_false : (b : Bool) → (b && false) ≡ false
and_false true = refl
and_false false = refl

pub and_true : (b : Bool) → (b && true) ≡ b
and_true true = refl
and_true false = refl

pub is_in-push_same : (xs : List ℕ) (n k : ℕ) → k ≡ n → is_in (xs ++ n ∷ []) k ≡ true
is_in-push_same [] n k e = ap (λ b. b || false) (alike k n e)
is_in-push_same (x ∷ xs) n k e = ap (λ b. (k == x) || b) (is_in-push_same xs n k e) ∙ or_true (k == x)

pub is_in-push_other : (xs : List ℕ) (n k : ℕ) → k ≢ n → is_in (xs ++ n ∷ []) k ≡ is_in xs k
is_in-push_other [] n k d = ap (λ b. b || false) (differ k n d)
is_in-push_other (x ∷ xs) n k d = ap (λ b. (k == x) || b) (is_in-push_other xs n k d)

pub is_in-filter : (xs : List ℕ) (d n : ℕ) → is_in (filter (λ x. not (x == d)) xs) n ≡ (is_in xs n && not (n == d))
is_in-filter xs d n =
    is_member-filter nat_eq_equiv (λ x. not (x == d)) n (λ x e. ap (λ y. not (y == d)) ((Decides-eqb n x).0 e)) xs
