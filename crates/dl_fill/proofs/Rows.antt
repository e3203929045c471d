-- Turned round, each number stands as often as before.
use Rattle.std.proofs.Common.{◌≡◌, ◌≢◌, ℕ, zero, suc, ◌+◌, ◌<◌, ◌≤◌, List, [], ◌∷◌, length, get_or, replicate, sym, subst, refl, arith}
use Rattle.dl_graph.specs.Counting.{times}
use Rattle.dl_fill.proofs.Times.{times-append, times_cons_same, times_cons_other}
use Rattle.dl_graph.specs.Rows.{row, places_from, places}

times-replicate_same : (n k : ℕ) → times k (replicate n k) ≡ n
times-replicate_same zero k = refl
times-replicate_same (suc n) k = omega (arith, times_cons_same k k (replicate n k) refl, times-replicate_same n k)

times-replicate_other : (n i k : ℕ) → i ≢ k → times i (replicate n k) ≡ 0
times-replicate_other zero i k h = refl
times-replicate_other (suc n) i k h = omega (arith, times_cons_other i k (replicate n k) h, times-replicate_other n i k h)

module _ {X : Type 0} (f : X → List ℕ) where
  places_above : (xs : List X) (k i q : ℕ) → i < k → times i (places_from f k xs q) ≡ 0
  places_above [] k i q h = refl
  places_above (x ∷ xs) k i q h =
      omega (arith, times-append i (replicate (times q (f x)) k) (places_from f (suc k) xs q), times-replicate_other (times q (f x)) i k (omega arith), places_above xs (suc k) i q (omega arith))

  places_at : (xs : List X) (k j q : ℕ) → times (k + j) (places_from f k xs q) ≡ times q (row f xs j)
  places_at [] k j q = refl
  places_at (x ∷ xs) k zero q =
      let e : k + 0 ≡ k = omega arith in
      subst (λ (v : ℕ). times v (places_from f k (x ∷ xs) q) ≡ times q (f x)) (sym e)
      (omega (arith, times-append k (replicate (times q (f x)) k) (places_from f (suc k) xs q), times-replicate_same (times q (f x)) k, places_above xs (suc k) k q (omega arith)))
  places_at (x ∷ xs) k (suc j) q =
      let e : suc k + j ≡ k + suc j = omega arith in
      let r : times (k + suc j) (places_from f (suc k) xs q) ≡ times q (row f xs j) =
      subst (λ (v : ℕ). times v (places_from f (suc k) xs q) ≡ times q (row f xs j)) e (places_at xs (suc k) j q) in
      omega (arith, r, times-append (k + suc j) (replicate (times q (f x)) k) (places_from f (suc k) xs q), times-replicate_other (times q (f x)) (k + suc j) k (omega arith))

  -- a place stands for q as often as q stands at the place
  pub places_turned : (xs : List X) (j q : ℕ) → times j (places f xs q) ≡ times q (row f xs j)
  places_turned xs j q =
      let e : 0 + j ≡ j = omega arith in
      subst (λ (v : ℕ). times v (places f xs q) ≡ times q (row f xs j)) e (places_at xs 0 j q)

  pub row_inside : (xs : List X) (k : ℕ) (d : X) → k < length xs → row f xs k ≡ f (get_or xs k d)
  row_inside [] k d h = absurd (omega arith)
  row_inside (x ∷ xs) zero d h = refl
  row_inside (x ∷ xs) (suc k) d h = row_inside xs k d (omega arith)

  pub row_outside : (xs : List X) (k : ℕ) → length xs ≤ k → row f xs k ≡ []
  row_outside [] k h = refl
  row_outside (x ∷ xs) zero h = absurd (omega arith)
  row_outside (x ∷ xs) (suc k) h = row_outside xs k (omega arith)
