-- A list that is flat, or in pages.
use Rattle.dl_pages.proofs.PageLemmas.{true_within}
use Rattle.std.proofs.Common.{◌≡◌, ℕ, ◌+◌, ◌-◌, ◌<◌, ◌≤◌, Bool, true, false, List, [], ◌∷◌, ◌++◌, refl, length, get_or, replicate, sym, ap, ◌∙◌, arith, append_assoc, append-nil}
use Rattle.std.proofs.lemmas.List.{get_or_append_left, get_or-append_right, get_or-replicate, replicate_more}

module _ {X : Type 0} where
  -- a flat list of which nothing is owned is empty
  pub flat_empty : (xs : List X) → ((at : ℕ) → get_or (replicate (length xs) true) at false ≡ false) → xs ≡ []
  flat_empty [] none = refl
  flat_empty (x ∷ xs) none = let h : true ≡ false = none 0 in absurd (cc)

  pub none_yet : (xs : List X) (n k : ℕ) (v : X) → n ≡ k → xs ≡ xs ++ replicate (n - k) v
  none_yet xs n k v same =
      let none : 0 ≡ n - k = omega (arith, same) in
      sym (append-nil xs) ∙ ap (λ m. xs ++ replicate m v) none

  pub one_more : (xs ys zs : List X) (n k : ℕ) (v : X) → ys ≡ xs ++ replicate (n - k) v → zs ≡ ys ++ v ∷ [] → k ≤ n → zs ≡ xs ++ replicate (n + 1 - k) v
  one_more xs ys zs n k v before put le =
      let next : n - k + 1 ≡ n + 1 - k = omega (arith, le) in
      put ∙ ap (λ l. l ++ v ∷ []) before ∙ append_assoc xs (replicate (n - k) v) (v ∷ []) ∙ ap (λ l. xs ++ l) (replicate_more (n - k) v)
      ∙ ap (λ m. xs ++ replicate m v) next

  pub all_there : (xs ys : List X) (n k len : ℕ) (v : X) → ys ≡ xs ++ replicate (n - k) v → n ≡ len → ys ≡ xs ++ replicate (len - k) v
  all_there xs ys n k len v before all = before ∙ ap (λ m. xs ++ replicate (m - k) v) all

-- places behind the old ones are owned
module _ (old new : List Bool) (more : ℕ) (grown : new ≡ old ++ replicate more true) where
  pub owned_still : (at : ℕ) → get_or old at false ≡ true → get_or new at false ≡ true
  owned_still at h =
      ap (λ (bs : List Bool). get_or bs at false) grown ∙ get_or_append_left old (replicate more true) false at (true_within old at h) ∙ h

  pub owned_behind : (at : ℕ) → length old ≤ at → at < length old + more → get_or new at false ≡ true
  owned_behind at le lt =
      ap (λ (bs : List Bool). get_or bs at false) grown
      ∙ get_or-append_right old (replicate more true) (length old) at false refl le
      ∙ get_or-replicate more (at - length old) true false (omega (arith, le, lt))
