-- Parts of 64 elements, one after another.
use Rattle.std.specs.List.{flat_map}
use Rattle.dl_pages.specs.Pages.{Filled}
use Rattle.std.proofs.Common.{◌≡◌, ℕ, zero, suc, ◌+◌, ◌-◌, ◌*◌, ◌<◌, ◌≤◌, List, [], ◌∷◌, ◌++◌, refl, length, get_or, set, take, sym, ap, ◌∙◌, subst, arith, append_assoc, append-nil, length-append}
use Rattle.std.proofs.lemmas.List.{get_or_append_left, get_or-append_right, set-append_left, set-append_right, nil_from_length, length_push}

module _ {X : Type 0} where
  abbrev pub joined : List (List X) → List X
  joined parts = flat_map (λ part. part) parts

  pub filled_length : (ls : List (List X)) (n : ℕ) → Filled ls n → length (joined ls) ≡ n
  filled_length [] n h = sym h
  filled_length (l ∷ ls) n h = omega (arith, length-append l (joined ls), filled_length ls (n - 64) h.1, h.0)

  pub filled_bound : (ls : List (List X)) (n : ℕ) → Filled ls n → n ≤ 64 * length ls
  filled_bound [] n h = omega (arith, h)
  filled_bound (l ∷ ls) n h = omega (arith, filled_bound ls (n - 64) h.1)

  -- how many elements the k-th part has
  pub part_length : (ls : List (List X)) (n k r : ℕ) → Filled ls n → n ≡ 64 * k + r → r < 64 → length (get_or ls k []) ≡ r
  part_length [] n k r h e small = omega (arith, h, e)
  part_length (l ∷ ls) n zero r h e small = omega (arith, h.0, e, small)
  part_length (l ∷ ls) n (suc k) r h e small = part_length ls (n - 64) k r h.1 (omega (arith, e)) small

  pub part_within : (ls : List (List X)) (n at k r : ℕ) → Filled ls n → at ≡ 64 * k + r → r < 64 → at < n → r < length (get_or ls k [])
  part_within [] n at k r h e small lt = absurd (omega (arith, h, lt))
  part_within (l ∷ ls) n at zero r h e small lt = omega (arith, h.0, e, small, lt)
  part_within (l ∷ ls) n at (suc k) r h e small lt = part_within ls (n - 64) (at - 64) k r h.1 (omega (arith, e)) small (omega (arith, e, lt))

  -- the element at a place stands in its part
  pub joined_at : (ls : List (List X)) (n at k r : ℕ) (d : X) → Filled ls n → at ≡ 64 * k + r → r < 64 → at < n
      → get_or (joined ls) at d ≡ get_or (get_or ls k []) r d
  joined_at [] n at k r d h e small lt = absurd (omega (arith, h, lt))
  joined_at (l ∷ ls) n at zero r d h e small lt =
      let same : at ≡ r = omega (arith, e) in
      ap (λ i. get_or (l ++ joined ls) i d) same ∙ get_or_append_left l (joined ls) d r (omega (arith, h.0, e, small, lt))
  joined_at (l ∷ ls) n at (suc k) r d h e small lt =
      get_or-append_right l (joined ls) 64 at d (omega (arith, h.0, e, lt)) (omega (arith, e))
      ∙ joined_at ls (n - 64) (at - 64) k r d h.1 (omega (arith, e)) small (omega (arith, e, lt))

  pub joined_set : (ls : List (List X)) (n at k r : ℕ) (v : X) → Filled ls n → at ≡ 64 * k + r → r < 64 → at < n
      → joined (set ls k (set (get_or ls k []) r v)) ≡ set (joined ls) at v
  joined_set [] n at k r v h e small lt = absurd (omega (arith, h, lt))
  joined_set (l ∷ ls) n at zero r v h e small lt =
      let same : r ≡ at = omega (arith, e) in
      sym (set-append_left l (joined ls) r v (omega (arith, h.0, e, small, lt))) ∙ ap (λ i. set (l ++ joined ls) i v) same
  joined_set (l ∷ ls) n at (suc k) r v h e small lt =
      ap (λ m. l ++ m) (joined_set ls (n - 64) (at - 64) k r v h.1 (omega (arith, e)) small (omega (arith, e, lt)))
      ∙ sym (set-append_right l (joined ls) 64 at v (omega (arith, h.0, e, lt)) (omega (arith, e)))

  pub joined_push : (ls : List (List X)) (n k r : ℕ) (v : X) → Filled ls n → n ≡ 64 * k + r → r < 64 → k < length ls
      → joined (set ls k (get_or ls k [] ++ v ∷ [])) ≡ joined ls ++ v ∷ []
  joined_push [] n k r v h e small lt = absurd (omega (arith, lt))
  joined_push (l ∷ ls) n zero r v h e small lt =
      let none : joined ls ≡ [] = nil_from_length (joined ls) (omega (arith, filled_length ls (n - 64) h.1, e, small)) in
      ap (λ m. (l ++ v ∷ []) ++ m) none ∙ append-nil (l ++ v ∷ [])
      ∙ sym (ap (λ m. m ++ v ∷ []) (ap (λ m. l ++ m) none ∙ append-nil l))
  joined_push (l ∷ ls) n (suc k) r v h e small lt =
      ap (λ m. l ++ m) (joined_push ls (n - 64) k r v h.1 (omega (arith, e)) small (omega (arith, lt)))
      ∙ sym (append_assoc l (joined ls) (v ∷ []))

  pub filled_push : (ls : List (List X)) (n k r : ℕ) (v : X) → Filled ls n → n ≡ 64 * k + r → r < 64 → k < length ls
      → Filled (set ls k (get_or ls k [] ++ v ∷ [])) (n + 1)
  filled_push [] n k r v h e small lt = absurd (omega (arith, lt))
  filled_push (l ∷ ls) n zero r v h e small lt =
      (omega (arith, length_push l v, h.0, e, small), let same : n - 64 ≡ n + 1 - 64 = omega (arith, e, small) in subst (Filled ls) same h.1)
  filled_push (l ∷ ls) n (suc k) r v h e small lt = (
    omega (arith, h.0, e),
    let same : n - 64 + 1 ≡ n + 1 - 64 = omega (arith, e) in
        subst (Filled (set ls k (get_or ls k [] ++ v ∷ []))) same (filled_push ls (n - 64) k r v h.1 (omega (arith, e)) small (omega (arith, lt))),
  )

  -- a part becomes another of the same length
  pub filled_set : (ls : List (List X)) (n k : ℕ) (l' : List X) → Filled ls n → length l' ≡ length (get_or ls k []) → Filled (set ls k l') n
  filled_set [] n k l' h e = h
  filled_set (l ∷ ls) n zero l' h e = (e ∙ h.0, h.1)
  filled_set (l ∷ ls) n (suc k) l' h e = (h.0, filled_set ls (n - 64) k l' h.1 e)

  -- only parts without elements stand behind the last one
  pub filled_take : (ls : List (List X)) (n k : ℕ) → Filled ls n → n ≤ 64 * k → Filled (take k ls) n
  filled_take ls n zero h le = omega (arith, le)
  filled_take [] n (suc k) h le = h
  filled_take (l ∷ ls) n (suc k) h le = (h.0, filled_take ls (n - 64) k h.1 (omega (arith, le)))

  pub joined_take : (ls : List (List X)) (n k : ℕ) → Filled ls n → n ≤ 64 * k → joined (take k ls) ≡ joined ls
  joined_take ls n zero h le = sym (nil_from_length (joined ls) (omega (arith, filled_length ls n h, le)))
  joined_take [] n (suc k) h le = refl
  joined_take (l ∷ ls) n (suc k) h le = ap (λ m. l ++ m) (joined_take ls (n - 64) k h.1 (omega (arith, le)))
