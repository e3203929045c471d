-- The lists at the first numbers.
use Rattle.std.proofs.Common.{◌≡◌, ◌≢◌, ℕ, ◌+◌, ◌<◌, ◌≤◌, List, [], ◌∷◌, ◌++◌, length, get_or, set, map, sym, ap, ◌∙◌, arith, inl, inr, get_or-set_same, get_or-set_other}
use Rattle.std.proofs.Math.ListN.{length-map, length-set}
use Rattle.std.proofs.lemmas.Bool.{cases_eq, cases_lt}
use Rattle.std.proofs.lemmas.List.{get_or_past, get_or-map}
use Rattle.std.proofs.lemmas.List.FromFn.{length-map-range_with_len, get_or-map-range_with_len, map-range_with_len_more, fill_by_all}
use Rattle.dl_rows.specs.Tables.{RowLists, list_at, list_of, drop_item, KeepsLists}
use Rattle.dl_rows.proofs.TableLemmas.{constant_at}
use Rattle.dl_rules.specs.Indexes.{by_number}

pub numbered_at : (n : ℕ) (t : RowLists) (k : ℕ) → k < n → list_of (by_number n t) k ≡ list_at t k
numbered_at n t k lt = get_or-map-range_with_len (list_at t) 0 n k k [] lt (omega arith)

-- the same where the lists from there on are empty
pub numbered_all : (n : ℕ) (t : RowLists) → ((k : ℕ) → n ≤ k → list_at t k ≡ []) → (k : ℕ) → list_of (by_number n t) k ≡ list_at t k
numbered_all n t past k =
    elim (cases_lt k n) [
      | inl lt ↦ numbered_at n t k lt
      | inr ge ↦ get_or_past (by_number n t) k [] (omega (arith, ge, length-map-range_with_len (list_at t) 0 n)) ∙ sym (past k ge)
    ]

-- lists that are these
pub numbered_is : (n : ℕ) (t : RowLists) (xs : List (List ℕ)) → length xs ≡ n → ((k : ℕ) → k < n → get_or xs k [] ≡ list_at t k) → by_number n t ≡ xs
numbered_is n t xs long are = sym (fill_by_all (list_at t) xs n [] long are)

pub numbered_kept : (n : ℕ) (t t' : RowLists) → KeepsLists t t' → by_number n t' ≡ by_number n t
numbered_kept n t t' keeps =
    numbered_is n t' (by_number n t) (length-map-range_with_len (list_at t) 0 n)
    (λ k lt. numbered_at n t k lt ∙ sym (keeps.lists k))

-- one more, which is empty
pub numbered_more : (n m : ℕ) (t : RowLists) → m ≡ n + 1 → list_at t n ≡ [] → by_number m t ≡ by_number n t ++ [] ∷ []
numbered_more n m t more none =
    ap (λ k. by_number k t) more
    ∙ map-range_with_len_more (list_at t) 0 n n (omega arith)
    ∙ ap (λ (xs : List ℕ). by_number n t ++ xs ∷ []) none

-- no lists at all
pub numbered_none : {X : Type 0} (xs : List X) (t : RowLists) → ((k : ℕ) → list_at t k ≡ []) → by_number (length xs) t ≡ map (λ _. []) xs
numbered_none xs t none =
    numbered_is (length xs) t (map (λ _. []) xs) (length-map xs (λ _. []))
    (λ k lt. constant_at [] xs k ∙ sym (none k))

-- one list that becomes another
pub numbered_set : (n : ℕ) (t t' : RowLists) (u : ℕ) (xs : List ℕ) → u < n → list_at t' u ≡ xs → ((k : ℕ) → k ≢ u → list_at t' k ≡ list_at t k)
    → by_number n t' ≡ set (by_number n t) u xs
numbered_set n t t' u xs within here other =
    let long : length (by_number n t) ≡ n = length-map-range_with_len (list_at t) 0 n in
    numbered_is n t' (set (by_number n t) u xs) (length-set (by_number n t) u xs ∙ long)
    (λ k lt. elim (cases_eq k u) [
      | inl e ↦ ap (λ (i : ℕ). get_or (set (by_number n t) u xs) i []) e ∙ get_or-set_same (by_number n t) u xs [] (omega (arith, within, long)) ∙ sym here ∙ ap (list_at t') (sym e)
      | inr d ↦ get_or-set_other (by_number n t) u k xs [] d ∙ numbered_at n t k lt ∙ sym (other k d)
    ])

-- a number goes from all lists, and its own list becomes empty
pub numbered_gone : (n : ℕ) (t t' : RowLists) (x : ℕ) → x < n → list_at t' x ≡ [] → ((k : ℕ) → k ≢ x → list_at t' k ≡ drop_item x (list_at t k))
    → by_number n t' ≡ set (map (drop_item x) (by_number n t)) x []
numbered_gone n t t' x within none left =
    let all : List (List ℕ) = map (drop_item x) (by_number n t) in
    let first : length (by_number n t) ≡ n = length-map-range_with_len (list_at t) 0 n in
    let long : length all ≡ n = length-map (by_number n t) (drop_item x) ∙ first in
    numbered_is n t' (set all x []) (length-set all x [] ∙ long)
    (λ k lt. elim (cases_eq k x) [
      | inl e ↦ ap (λ (i : ℕ). get_or (set all x []) i []) e ∙ get_or-set_same all x [] [] (omega (arith, within, long)) ∙ sym none ∙ ap (list_at t') (sym e)
      | inr d ↦ get_or-set_other all x k [] [] d ∙ get_or-map (drop_item x) (by_number n t) k [] [] (omega (arith, lt, first))
          ∙ ap (drop_item x) (numbered_at n t k lt) ∙ sym (left k d)
    ])
