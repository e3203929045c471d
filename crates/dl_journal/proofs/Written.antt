-- Lemmas on a history and on ends that are written one by one.
use Rattle.std.proofs.Common.{◌≡◌, ◌∙◌, ◌<◌, ◌≤◌, ◌+◌, ℕ, zero, suc, List, [], ◌∷◌, length, take, get_or, Some, None, refl, sym, ap, arith}
use Rattle.std.specs.Prelude.{slice_get}
use Rattle.std.specs.List.{enumerate_from}
use Rattle.std.proofs.lemmas.List.FromFn.{length-enumerate_from, get_or-enumerate_from}
use Rattle.std.proofs.lemmas.Option.{slice_get_within, get_or_from_slice_get}

module _ {A : Type 0} where
  pub item_within : (l : List A) (at : ℕ) (x : A) → Some x ≡ slice_get l at → at < length l
  item_within l at x e = slice_get_within l at x (sym e)

  pub item_is : (l : List A) (at : ℕ) (x : A) → Some x ≡ slice_get l at → x ≡ get_or l at x
  item_is l at x e = sym (get_or_from_slice_get l at x x (sym e))

  pub past_end : (l : List A) (at : ℕ) → None ≡ slice_get l at → length l ≤ at
  past_end [] at e = omega arith
  past_end (x ∷ l) zero e = absurd (cc)
  past_end (x ∷ l) (suc at) e = let past = past_end l at e in omega (arith, past)

  -- the first items, each with its place
  pub numbered_take : (n : ℕ) (l : List A) (at : ℕ) → enumerate_from n (take at l) ≡ take at (enumerate_from n l)
  numbered_take n l zero = refl
  numbered_take n [] (suc at) = refl
  numbered_take n (x ∷ l) (suc at) = ap (λ (m : List (ℕ × A)). (n, x) ∷ m) (numbered_take (n + 1) l at)

  pub numbered_at : (l : List A) (at : ℕ) (x : A) → at < length l → x ≡ get_or l at x → (at, x) ≡ get_or (enumerate_from 0 l) at (at, x)
  numbered_at l at x within is =
      let zero_and : at ≡ 0 + at = omega arith in
      ap (λ (y : A). (at, y)) is ∙ ap (λ (n : ℕ). (n, get_or l at x)) zero_and ∙ sym (get_or-enumerate_from 0 l at (at, x) within)

  pub numbered_within : (l : List A) (at : ℕ) → at < length l → at < length (enumerate_from 0 l)
  numbered_within l at within = omega (arith, within, length-enumerate_from 0 l)
