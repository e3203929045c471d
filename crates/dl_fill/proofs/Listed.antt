-- A list that is sorted, and then rid of repeats, lists its elements.
use Rattle.std.proofs.Common.{◌≡◌, Bool, List, [], ◌∷◌, get_or, arith}
use Rattle.std.specs.Prelude.{All, AllPairs, Contains}
use Rattle.std.specs.Bool.{Decides}
use Rattle.std.specs.Cmp.{IsEquivalence, IsTotalOrder}
use Rattle.std.specs.Ordering.{eq_by_cmp}
use Rattle.std.specs.List.{dedup}
use Rattle.std.specs.List.Sorted.{IsStrictlySortedBy, IsPermutation, IsSorted}
use Rattle.std.specs.declared.cmp.Ordering.{Ordering}
use Rattle.std.specs.declared.cmp.Ordering.TheVariants.{Less}
use Rattle.std.proofs.lemmas.List.Kept.{AllPairs-cons, IsStrictlySortedBy-dedup, Contains-dedup, Contains-from_dedup}
use Rattle.std.proofs.lemmas.List.Sorted.{Contains-permutation, IsPermutation-sym}
use Rattle.std.proofs.lemmas.List.Elements.{All-contains, All-from_recursion, Contains-get_or}
use Rattle.dl_theory.specs.Listings.{IsListOf}

module _ {A : Type 0} {R : A → A → Ordering} {E : A → A → Bool} (total : IsTotalOrder R) (ties : (x y : A) → E x y ≡ eq_by_cmp R x y)
    (equiv : IsEquivalence E) (decides : (x y : A) → Decides (E x y) (x ≡ y)) where
  pairs_in_order : (xs : List A) → IsStrictlySortedBy R xs → AllPairs (λ x y. R x y ≡ Less) xs
  unfolding IsStrictlySortedBy
  pairs_in_order [] h = λ i j d before within. absurd (omega arith)
  pairs_in_order (x ∷ xs) h =
      AllPairs-cons (λ y z. R y z ≡ Less) x xs (All-from_recursion (λ y. R x y ≡ Less) xs h.0) (pairs_in_order xs h.1)

  pub listed : (P : A → Type 0) (all sorted : List A) → IsPermutation all sorted → IsSorted R sorted → All P all → ((x : A) → P x → Contains all x)
      → IsListOf R P (dedup E sorted)
  listed P all sorted moved in_order sound complete = record {
    in_order = pairs_in_order (dedup E sorted) (IsStrictlySortedBy-dedup total ties sorted in_order);
    sound = λ k d lt.
        let x = get_or (dedup E sorted) k d in
        All-contains P all x sound
        (Contains-permutation sorted all x (IsPermutation-sym all sorted moved)
        (Contains-from_dedup E sorted x (Contains-get_or (dedup E sorted) k d lt)));
    complete = λ x c.
        Contains-dedup equiv (λ a b e. (decides a b).0 e) sorted x
        (Contains-permutation all sorted x moved (complete x c));
  }
