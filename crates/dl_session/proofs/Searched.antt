-- What a search finds among editions in the order of their numbers, and what an edit at that place does.
use Rattle.std.proofs.Common.{◌≡◌, ℕ, ◌+◌, ◌-◌, ◌<◌, ◌≤◌, List, length, get_or, set, Some, None, Result, Ok, Err, IfOk, IfErr, sym, ap, subst, arith}
use Rattle.std.specs.List.{insert}
use Rattle.std.specs.List.Sorted.{IsSearchInRange, IsBinarySearchResult, IsNonDecreasingBy}
use Rattle.std.specs.Ordering.{nat_cmp, ordering_index}
use Rattle.std.proofs.lemmas.Cmp.{ranked}
use Rattle.std.proofs.lemmas.List.Sorted.{IsNonDecreasingBy-from_default}
use Rattle.std.proofs.lemmas.List.Edits.{length-insert, get_or-insert_below, get_or-insert_at, get_or-insert_above}
use Rattle.std.proofs.lemmas.Bool.Decides.{nat_tests}
use Rattle.std.proofs.lemmas.Grind.{common_steps}
use Rattle.dl_edition.specs.Editions.{EditionLists}
use Rattle.dl_session.specs.Table.{no_edition, theory_in, number_at, IsRising, IsAt, IsGapFor, Gains}
use Rattle.dl_session.proofs.Numbered.{NoneBefore, FindsAfter, found_none, found_at, finds_set, finds_insert}

-- one equation for every number gives the two facts
gains_from_finds : (old new : List EditionLists) (x : EditionLists) → FindsAfter old new x → Gains old new x
gains_from_finds old new x finds = record { there = grind (arith, nat_tests, finds x.number); others = λ q differs. grind (arith, nat_tests, finds q) }

module _ (l : List EditionLists) (rising : IsRising l) (n : ℕ) where
  -- the comparisons with n rise along the list, as a binary search asks
  comparisons_rise : IsNonDecreasingBy (λ (x : EditionLists). ordering_index (nat_cmp x.number n)) l
  comparisons_rise = IsNonDecreasingBy-from_default (λ (x : EditionLists). ordering_index (nat_cmp x.number n)) l no_edition (λ i j le in_range.
      let numbers_rise : number_at l i ≤ number_at l j = grind (arith, rising i j, λ (same : i ≡ j). ap (number_at l) same) in
      grind (arith, nat_tests))

  -- a binary search ends at the number, or at the gap for it
  pub searched : (r : Result ℕ ℕ) → IsSearchInRange r (length l) → IsBinarySearchResult (λ (x : EditionLists). nat_cmp x.number n) l r → record { found : IfOk r (IsAt l n); absent : IfErr r (IsGapFor l n) }
  searched (Ok at) in_range equal = record { found = record { in_range = in_range; has_number = ranked _ n _ (sym (equal no_edition)) }; absent = tt }
  searched (Err at) in_range parted = record {
    found = tt;
    absent = record {
      in_range = in_range;
      smaller_before = λ j lt. ranked _ n _ (sym ((parted comparisons_rise).0 j no_edition (omega arith) lt));
      greater_after = λ j le lt. ranked _ n _ (sym ((parted comparisons_rise).1 j no_edition le lt));
    };
  }

module _ (l : List EditionLists) (rising : IsRising l) (n at : ℕ) (is_at : IsAt l n at) where
  -- the numbers before the place are smaller, so none is n
  none_before_at : NoneBefore l n at
  none_before_at j lt same = omega (arith, rising j at lt is_at.in_range, is_at.has_number)

  -- the edition is found at its place
  pub theory_at : (d : EditionLists) → theory_in l n ≡ Some (get_or l at d).theory
  theory_at d = found_at l n at d is_at none_before_at

module _ (l : List EditionLists) (rising : IsRising l) (x : EditionLists) (at : ℕ) (is_at : IsAt l x.number at) where
  -- writing over it changes that number alone
  pub gains_set : Gains l (set l at x) x
  gains_set = gains_from_finds _ _ x (finds_set l x at is_at (none_before_at l rising x.number at is_at))

  -- and keeps the order, since every number stays
  pub rising_set : IsRising (set l at x)
  rising_set i j lt in_range = grind (arith, common_steps, rising i j, rising i at, rising at j, is_at.in_range, is_at.has_number)

-- a number that has a gap is not found
pub theory_in_gap : (l : List EditionLists) (n at : ℕ) → IsGapFor l n at → theory_in l n ≡ None
theory_in_gap l n at gap = found_none l n (λ j lt same. grind (arith, gap.smaller_before j, gap.greater_after j))

module _ (l : List EditionLists) (x : EditionLists) (at : ℕ) (gap : IsGapFor l x.number at) where
  -- a new edition in the gap changes its number alone
  pub gains_insert : Gains l (insert l at x) x
  gains_insert = gains_from_finds _ _ x (finds_insert l x at (λ j lt same. omega (arith, gap.smaller_before j lt)))

  -- it keeps the order: each new number is an old one below the gap, the edition's at it, or an old one moved up by one
  pub rising_insert : IsRising l → IsRising (insert l at x)
  rising_insert rising i j lt in_range =
      let new = insert l at x in
      let number = λ (y : EditionLists). y.number in
      let length_new = length-insert l at x gap.in_range in
      let below : (i : ℕ) → i < at → number_at new i ≡ number_at l i = λ i lower. ap number (get_or-insert_below l at x no_edition i lower gap.in_range) in
      let here : (i : ℕ) → i ≡ at → number_at new i ≡ x.number = λ i same. rw same (ap number (get_or-insert_at l at x no_edition gap.in_range)) in
      let above : (i : ℕ) → at < i → number_at new i ≡ number_at l (i - 1) = λ i higher. subst (λ q. number_at new q ≡ number_at l (i - 1)) {x = i - 1 + 1} (omega arith) (ap number (get_or-insert_above l at x no_edition (i - 1) (omega arith) gap.in_range)) in
      grind (arith, below i, here i, above i, below j, here j, above j, rising i j, rising i (j - 1), rising (i - 1) (j - 1), gap.smaller_before i, gap.greater_after (j - 1))
