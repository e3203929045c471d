-- Lists that are read by place, sums over them, and lists that begin one list.
use Rattle.std.proofs.Common.{◌≡◌, ◌≢◌, ℕ, zero, suc, ◌+◌, ◌<◌, ◌≤◌, Bool, true, false, List, [], ◌∷◌, ◌++◌, length, set, refl, sym, ap, ◌∙◌, subst, ⊎_elim, append_assoc, arith}
use Rattle.std.proofs.lemmas.Bool.Decides.{leb_tells}
use Rattle.std.proofs.lemmas.List.{append-nil}
use Rattle.std.proofs.lemmas.List.Sums.{sum_by-cons}
use Rattle.std.specs.Prelude.{if◌then◌else◌, nat_le, sum_by}
use mathlib.Core.Option.{some, some-injective, some-ne-none}
use lib.ListN.{get_elem?}
use Rattle.crossbeam_queue.proofs.Lists.{at_set, at_snoc}
use Rattle.dl_turn.specs.History.{StartsWith}
use Rattle.dl_turn.specs.Steps.{longer, shorter}

module _ {A : Type 0} where
  -- what holds of the new element and of each other one holds of each
  pub each_set : (F : ℕ → A → Type 0) (l : List A) (p : ℕ) (w : A) → F p w → ((j : ℕ) (u : A) → j ≢ p → get_elem? l j ≡ some u → F j u) → (j : ℕ) (u : A) → get_elem? (set l p w) j ≡ some u → F j u
  each_set F l p w mine others j u e = ⊎_elim (λ (x : (j ≡ p) × (w ≡ u)). subst (λ (y : ℕ × A). F y.0 y.1) (λ i. (sym x.0 i, x.1 i)) mine)
      (λ (x : (j ≢ p) × (get_elem? l j ≡ some u)). others j u x.0 x.1) (at_set l p j w u e)

  -- the same of a list that is one longer
  pub each_snoc : (F : A → Type 0) (l : List A) (w : A) → F w → ((j : ℕ) (u : A) → get_elem? l j ≡ some u → F u) → (j : ℕ) (u : A) → get_elem? (l ++ w ∷ []) j ≡ some u → F u
  each_snoc F l w mine others j u e = ⊎_elim (λ (x : get_elem? l j ≡ some u). others j u x) (λ (x : w ≡ u). subst F x mine) (at_snoc l w u j e)

  pub only_one : (x : A) (j : ℕ) (u : A) → get_elem? (x ∷ []) j ≡ some u → (j ≡ 0) × (x ≡ u)
  only_one x zero u e = (refl, some-injective x u e)
  only_one x (suc j) u e = absurd (some-ne-none u (sym e))

  pub at_below : (l : List A) (p : ℕ) (v : A) → get_elem? l p ≡ some v → p < length l
  at_below [] p v e = absurd (some-ne-none v (sym e))
  at_below (x ∷ xs) zero v e = omega arith
  at_below (x ∷ xs) (suc p) v e = let r = at_below xs p v e in omega arith

  pub heads : {x y : A} {l m : List A} → x ∷ l ≡ y ∷ m → x ≡ y
  heads e = cc

  pub tails : {x y : A} {l m : List A} → x ∷ l ≡ y ∷ m → l ≡ m
  tails e = cc

  -- the sum after a change at one place
  pub sum_by-set_at : (f : A → ℕ) (l : List A) (p : ℕ) (v w : A) → get_elem? l p ≡ some v → sum_by f (set l p w) + f v ≡ sum_by f l + f w
  sum_by-set_at f [] p v w e = absurd (some-ne-none v (sym e))
  sum_by-set_at f (x ∷ xs) zero v w e = let same : f x ≡ f v = ap f (some-injective x v e) in omega (arith, sum_by-cons f x xs, sum_by-cons f w xs)
  sum_by-set_at f (x ∷ xs) (suc p) v w e = let rest = sum_by-set_at f xs p v w e in omega (arith, sum_by-cons f x xs, sum_by-cons f x (set xs p w))

  -- a sum is as much as what stands at one place, or at two
  pub one-le-sum_by : (f : A → ℕ) (l : List A) (p : ℕ) (v : A) → get_elem? l p ≡ some v → f v ≤ sum_by f l
  one-le-sum_by f [] p v e = absurd (some-ne-none v (sym e))
  one-le-sum_by f (x ∷ xs) zero v e = let same : f x ≡ f v = ap f (some-injective x v e) in omega (arith, sum_by-cons f x xs)
  one-le-sum_by f (x ∷ xs) (suc p) v e = let rest = one-le-sum_by f xs p v e in omega (arith, sum_by-cons f x xs)

  pub two-le-sum_by : (f : A → ℕ) (l : List A) (p j : ℕ) (v u : A) → get_elem? l p ≡ some v → get_elem? l j ≡ some u → j ≢ p → f v + f u ≤ sum_by f l
  two-le-sum_by f [] p j v u e d n = absurd (some-ne-none v (sym e))
  two-le-sum_by f (x ∷ xs) zero zero v u e d n = absurd (n refl)
  two-le-sum_by f (x ∷ xs) zero (suc j) v u e d n = let same : f x ≡ f v = ap f (some-injective x v e) in let one = one-le-sum_by f xs j u d in omega (arith, sum_by-cons f x xs)
  two-le-sum_by f (x ∷ xs) (suc p) zero v u e d n = let same : f x ≡ f u = ap f (some-injective x u d) in let one = one-le-sum_by f xs p v e in omega (arith, sum_by-cons f x xs)
  two-le-sum_by f (x ∷ xs) (suc p) (suc j) v u e d n = let rest = two-le-sum_by f xs p j v u e d (λ s. n (ap suc s)) in omega (arith, sum_by-cons f x xs)

  pub sum_by-none : (f : A → ℕ) (l : List A) → ((j : ℕ) (u : A) → get_elem? l j ≡ some u → f u ≡ 0) → sum_by f l ≡ 0
  sum_by-none f [] h = refl
  sum_by-none f (x ∷ xs) h = let here = h 0 x refl in let rest = sum_by-none f xs (λ j u e. h (suc j) u e) in omega (arith, sum_by-cons f x xs)

  -- of two lists that begin one list the longer one begins with the other
  begins_begins : (xs ys r s : List A) → xs ++ r ≡ ys ++ s → length ys ≤ length xs → StartsWith xs ys
  begins_begins xs [] r s e n = (xs, refl)
  begins_begins [] (y ∷ ys) r s e n = absurd (omega arith)
  begins_begins (x ∷ xs) (y ∷ ys) r s e n = let rest = begins_begins xs ys r s (tails e) (omega arith) in (rest.0, λ i. heads e i ∷ rest.1 i)

  -- where two lists begin a third, so do the longer and the shorter of the two
  pub begins_longer : (xs ys whole : List A) → StartsWith whole xs → StartsWith whole ys → StartsWith whole (longer xs ys) × StartsWith whole (shorter xs ys)
  begins_longer xs ys whole a b = elim (nat_le (length ys) (length xs)) as (λ t. StartsWith whole (if t then xs else ys) × StartsWith whole (if t then ys else xs)) [ true ↦ (a, b) | false ↦ (b, a) ]

  -- and then the longer one begins with both
  pub longer_begins : (xs ys whole : List A) → StartsWith whole (longer xs ys) → StartsWith whole (shorter xs ys) → StartsWith (longer xs ys) xs × StartsWith (longer xs ys) ys
  longer_begins xs ys whole a b = ⊎_elim
      (λ (t : (nat_le (length ys) (length xs) ≡ true) × (length ys ≤ length xs)). on true t.0 (λ a b. (([], sym (append-nil xs)), begins_begins xs ys a.0 b.0 (sym a.1 ∙ b.1) t.1)) a b)
      (λ (t : (nat_le (length ys) (length xs) ≡ false) × (length xs < length ys)). on false t.0 (λ a b. (begins_begins ys xs a.0 b.0 (sym a.1 ∙ b.1) (omega arith), ([], sym (append-nil ys)))) a b)
      (leb_tells (length ys) (length xs))
    where
      on : (t : Bool) → nat_le (length ys) (length xs) ≡ t
          → (StartsWith whole (if t then xs else ys) → StartsWith whole (if t then ys else xs) → StartsWith (if t then xs else ys) xs × StartsWith (if t then xs else ys) ys)
          → StartsWith whole (longer xs ys) → StartsWith whole (shorter xs ys) → StartsWith (longer xs ys) xs × StartsWith (longer xs ys) ys
      on t e f = subst (λ (t : Bool). StartsWith whole (if t then xs else ys) → StartsWith whole (if t then ys else xs) → StartsWith (if t then xs else ys) xs × StartsWith (if t then xs else ys) ys) (sym e) f

  pub begins_itself : (whole : List A) → StartsWith whole whole
  begins_itself whole = ([], sym (append-nil whole))

  pub begins_more : (whole first more : List A) → StartsWith whole first → StartsWith (whole ++ more) first
  begins_more whole first more a = (a.0 ++ more, ap (λ l. l ++ more) a.1 ∙ append_assoc first a.0 more)
