-- Where an item stands last, as a list grows.
use Rattle.std.proofs.Common.{◌≡◌, ◌≢◌, ℕ, zero, suc, Some, List, [], ◌∷◌, ◌++◌, ◌⊎◌, length, refl, ap, arith, inl, inr}
use Rattle.std.specs.Prelude.{slice_get, Contains}
use Rattle.std.proofs.lemmas.Option.{slice_get_within, get_or_from_slice_get}
use Rattle.dl_lists.specs.Last.{IsLast}

module _ {A : Type 0} where
  pub get_push : (xs ys : List A) (n : ℕ) (x : A) → slice_get xs n ≡ Some x → slice_get (xs ++ ys) n ≡ Some x
  get_push [] ys n x h = cc
  get_push (y ∷ xs) ys zero x h = h
  get_push (y ∷ xs) ys (suc n) x h = get_push xs ys n x h

  pub get_last : (xs : List A) (x : A) → slice_get (xs ++ x ∷ []) (length xs) ≡ Some x
  get_last [] x = refl
  get_last (y ∷ xs) x = get_last xs x

  pub push_get : (xs : List A) (y : A) (n : ℕ) (x : A) → slice_get (xs ++ y ∷ []) n ≡ Some x
      → (slice_get xs n ≡ Some x) ⊎ ((n ≡ length xs) × (y ≡ x))
  push_get [] y zero x h = inr (refl, cc)
  push_get [] y (suc n) x h = cc
  push_get (z ∷ xs) y zero x h = inl h
  push_get (z ∷ xs) y (suc n) x h =
      elim (push_get xs y n x h) [
        | inl old ↦ inl old
        | inr new ↦ inr (ap suc new.0, new.1)
      ]

  pub last_push : (xs : List A) (x : A) → IsLast (xs ++ x ∷ []) x (length xs)
  last_push xs x = record {
    has = get_last xs x;
    none_later = λ m later h.
        elim (push_get xs x m x h) [
          | inl old ↦ absurd (omega (arith, later, slice_get_within xs m x old))
          | inr new ↦ absurd (omega (arith, later, new.0))
        ];
  }

  pub last_kept : (xs : List A) (x y : A) (n : ℕ) → y ≢ x → IsLast xs x n → IsLast (xs ++ y ∷ []) x n
  last_kept xs x y n other last = record {
    has = get_push xs (y ∷ []) n x last.has;
    none_later = λ m later h.
        elim (push_get xs y m x h) [
          | inl old ↦ last.none_later m later old
          | inr new ↦ other new.1
        ];
  }

  pub get_contains : (xs : List A) (n : ℕ) (x : A) → slice_get xs n ≡ Some x → Contains xs x
  get_contains xs n x h = (n, slice_get_within xs n x h, get_or_from_slice_get xs n x x h)
