-- Lists in two parts, and pairs of literals in two parts.
use Rattle.std.proofs.Common.{◌≡◌, ℕ, zero, suc, ◌+◌, ◌-◌, ◌<◌, Bool, true, false, cond, Option, None, Some, List, [], ◌∷◌, ◌++◌, length, get_or, take, drop, refl, sym, ap, subst, ◌∙◌, arith, inl, inr, position}
use Rattle.std.specs.Prelude.{IfSome, IfNone, nat_lt, slice_get}
use Rattle.std.specs.List.{list_any}
use Rattle.std.proofs.lemmas.Bool.{cases_lt, cond-true, lt-ltb}
use Rattle.std.proofs.lemmas.List.{append_assoc, length-append, take_more, take_all, take-append-drop, drop_more}
use Rattle.std.proofs.lemmas.List.Sums.{position_or_len_is}
use Rattle.std.proofs.lemmas.List.Quantifiers.{position-Some}
use Rattle.std.proofs.lemmas.List.Folds.{list_any_at}
use Rattle.std.proofs.lemmas.Option.{get_or_from_slice_get, slice_get-get_or, slice_get_within, slice_get_cases}
use Rattle.dl_base.specs.Paths.{IsDistinct}
use Rattle.dl_base.proofs.Distinct.{distinct_apart}
use Rattle.dl_base.proofs.Filters.{false_unless}
use Rattle.dl_lit.specs.declared.literal.Literal.{Literal}
use Rattle.dl_lit.specs.Literal.{complement}
use Rattle.dl_names.specs.Pairs.{same_atom, pairs_of}
use Rattle.dl_names.proofs.PairLemmas.{pairs_any, slice_get-append_left}

-- ---- lists

pub slice_get-append_right : {X : Type 0} (xs ys : List X) (n k : ℕ) → n ≡ length xs + k → slice_get (xs ++ ys) n ≡ slice_get ys k
slice_get-append_right [] ys n k e = let same : n ≡ k = omega (arith, e) in ap (slice_get ys) same
slice_get-append_right (x ∷ xs) ys zero k e = absurd (omega (arith, e))
slice_get-append_right (x ∷ xs) ys (suc n) k e = slice_get-append_right xs ys n k (omega (arith, e))

module _ {X : Type 0} (p : X → Bool) (xs ys : List X) (d : X) where
  left_at : (i : ℕ) → i < length xs → get_or (xs ++ ys) i d ≡ get_or xs i d
  left_at i lt =
      get_or_from_slice_get (xs ++ ys) i (get_or xs i d) d (slice_get-append_left xs ys i lt ∙ slice_get-get_or xs i d lt)

  right_at : (i k : ℕ) → i ≡ length xs + k → k < length ys → get_or (xs ++ ys) i d ≡ get_or ys k d
  right_at i k e lt =
      get_or_from_slice_get (xs ++ ys) i (get_or ys k d) d (slice_get-append_right xs ys i k e ∙ slice_get-get_or ys k d lt)

  position_from : (zs : List X) (n : ℕ) → n < length zs → p (get_or zs n d) ≡ true → ((k : ℕ) → k < n → p (get_or zs k d) ≡ false)
      → position p zs ≡ Some n
  position_from zs n lt here before =
      ap (λ k. cond (nat_lt k (length zs)) (Some k) None) (position_or_len_is p zs n d (omega (arith, lt)) before (λ _. here))
      ∙ cond-true (nat_lt n (length zs)) (Some n) None (lt-ltb n (length zs) lt)

  -- what is found in the first part stands there
  pub position_left : (k : ℕ) → Some k ≡ position p xs → Some k ≡ position p (xs ++ ys)
  position_left k e =
      let place = position-Some p xs k d (sym e) in
      sym (position_from (xs ++ ys) k (omega (arith, place.0, length-append xs ys))
      (ap p (left_at k place.0) ∙ place.1)
      (λ j lt. ap p (left_at j (omega (arith, lt, place.0))) ∙ place.2 j lt))

  -- and what is found in the second part alone stands behind the first
  pub position_right : (k : ℕ) → list_any p xs ≡ false → Some k ≡ position p ys → Some (length xs + k) ≡ position p (xs ++ ys)
  position_right k none e =
      let place = position-Some p ys k d (sym e) in
      sym (position_from (xs ++ ys) (length xs + k) (omega (arith, place.0, length-append xs ys))
      (ap p (right_at (length xs + k) k refl place.0) ∙ place.1)
      (λ j lt. elim (cases_lt j (length xs)) [
        | inl here ↦ ap p (left_at j here) ∙ false_unless (p (get_or xs j d)) ((λ h. h), (λ h. h))
            (λ found. let no : true ≡ false = sym (list_any_at p xs j d here found) ∙ none in cc)
        | inr past ↦ ap p (right_at j (j - length xs) (omega (arith, past)) (omega (arith, lt, past, place.0)))
            ∙ place.2 (j - length xs) (omega (arith, lt, past))
      ]))

-- ---- pairs

pairs-append : (xs ys : List Literal) → pairs_of (xs ++ ys) ≡ pairs_of xs ++ pairs_of ys
pairs-append [] ys = refl
pairs-append (x ∷ xs) ys = ap (λ ls. x ∷ complement x ∷ ls) (pairs-append xs ys)

-- a pair of the second part is not among those before it
not_before : (front back : List Literal) (k : ℕ) (q : Literal) → IsDistinct (pairs_of (front ++ back)) → slice_get back k ≡ Some q
    → list_any (same_atom q) (front ++ take k back) ≡ false
not_before front back k q distinct at =
    let before : List Literal = front ++ take k back in
    let rest : List Literal = drop (k + 1) back in
    let next : drop k back ≡ q ∷ rest =
    drop_more back k q (slice_get_within back k q at) ∙ ap (λ x. x ∷ rest) (get_or_from_slice_get back k q q at) in
    let whole : front ++ back ≡ before ++ q ∷ rest =
    ap (λ ls. front ++ ls) (sym (take-append-drop k back) ∙ ap (λ ls. take k back ++ ls) next) ∙ sym (append_assoc front (take k back) (q ∷ rest)) in
    let parts : IsDistinct (pairs_of before ++ pairs_of (q ∷ rest)) =
    subst (λ (ls : List Literal). IsDistinct ls) (ap pairs_of whole ∙ pairs-append before (q ∷ rest)) distinct in
    false_unless (list_any (same_atom q) before) ((λ h. h), (λ h. h))
    (λ found. distinct_apart (pairs_of before) (pairs_of (q ∷ rest)) q parts (pairs_any before q found) (0, omega arith, refl))

-- so it is put in behind them
pub joined_next : (front back old new : List Literal) (k : ℕ) (q r : Literal) (put : Option ℕ) → IsDistinct (pairs_of (front ++ back))
    → Some r ≡ slice_get back k → q ≡ r → old ≡ front ++ take k back → IfSome put (λ n. new ≡ old ++ q ∷ [])
    → IfNone put (list_any (same_atom q) old ≡ true) → new ≡ front ++ take (k + 1) back
joined_next front back old new k q r None distinct at same before added there =
    let no : true ≡ false =
    sym there ∙ ap (list_any (same_atom q)) before ∙ not_before front back k q distinct (sym at ∙ ap Some (sym same)) in
    cc
joined_next front back old new k q r (Some n) distinct at same before added there =
    let here : slice_get back k ≡ Some q = sym at ∙ ap Some (sym same) in
    added ∙ ap (λ ls. ls ++ q ∷ []) before ∙ append_assoc front (take k back) (q ∷ [])
    ∙ ap (λ ls. front ++ ls)
    (ap (λ x. take k back ++ x ∷ []) (sym (get_or_from_slice_get back k q q here)) ∙ sym (take_more back k q (slice_get_within back k q here)))

-- and past the last one all are in
pub joined_all : (front back new : List Literal) (k : ℕ) → None ≡ slice_get back k → new ≡ front ++ take k back → new ≡ front ++ back
joined_all front back new k none is =
    elim (slice_get_cases back k).1 [
      | inl there ↦ let no : None ≡ Some there.0 = none ∙ there.2 in cc
      | inr past ↦ is ∙ ap (λ ls. front ++ ls) (take_all k back past.0)
    ]
