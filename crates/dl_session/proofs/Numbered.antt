-- What is found under a number in a list of editions, and what an edit of the list does to it.
use Rattle.std.proofs.Common.{◌≡◌, ℕ, zero, suc, ◌<◌, ◌==◌, ◌≢◌, List, [], ◌∷◌, length, get_or, set, if◌then◌else◌, Some, None, refl, arith}
use Rattle.std.specs.List.{insert}
use Rattle.std.proofs.lemmas.Bool.Decides.{nat_tests}
use Rattle.dl_edition.specs.Editions.{EditionLists}
use Rattle.dl_session.specs.Table.{theory_in, number_at, IsAt}

-- no edition before place i has the number
abbrev pub NoneBefore : List EditionLists → ℕ → ℕ → Type 0
NoneBefore l n i = (j : ℕ) → j < i → number_at l j ≢ n

-- new has this edition, and at any other number what old has
abbrev pub FindsAfter : List EditionLists → List EditionLists → EditionLists → Type 0
FindsAfter old new x = (q : ℕ) → theory_in new q ≡ (if x.number == q then Some x.theory else theory_in old q)

none_before_tail : (x : EditionLists) (l : List EditionLists) (n i : ℕ) → NoneBefore (x ∷ l) n (suc i) → NoneBefore l n i
none_before_tail x l n i none j lt = none (suc j) (omega arith)

is_at_tail : (x : EditionLists) (l : List EditionLists) (n i : ℕ) → IsAt (x ∷ l) n (suc i) → IsAt l n i
is_at_tail x l n i is_at = record { in_range = omega (arith, is_at.in_range); has_number = is_at.has_number }

-- a number that no edition has is not found
pub found_none : (l : List EditionLists) (n : ℕ) → NoneBefore l n (length l) → theory_in l n ≡ None
found_none [] n none = refl
found_none (x ∷ l) n none = grind (arith, nat_tests, none 0 (omega arith), found_none l n (none_before_tail x l n _ none))

-- the first edition that has the number is found
pub found_at : (l : List EditionLists) (n i : ℕ) (d : EditionLists) → IsAt l n i → NoneBefore l n i → theory_in l n ≡ Some (get_or l i d).theory
found_at [] n i d is_at none = absurd (omega (arith, is_at.in_range))
found_at (x ∷ l) n zero d is_at none = grind (arith, nat_tests, is_at.has_number)
found_at (x ∷ l) n (suc i) d is_at none = grind (arith, nat_tests, none 0 (omega arith), found_at l n i d (is_at_tail x l n i is_at) (none_before_tail x l n i none))

-- writing over the first edition that has the number
pub finds_set : (l : List EditionLists) (x : EditionLists) (i : ℕ) → IsAt l x.number i → NoneBefore l x.number i → FindsAfter l (set l i x) x
finds_set [] x i is_at none q = absurd (omega (arith, is_at.in_range))
finds_set (y ∷ l) x zero is_at none q = grind (arith, nat_tests, is_at.has_number)
finds_set (y ∷ l) x (suc i) is_at none q = grind (arith, nat_tests, none 0 (omega arith), finds_set l x i (is_at_tail y l x.number i is_at) (none_before_tail y l x.number i none) q)

-- a new edition before any that has its number
pub finds_insert : (l : List EditionLists) (x : EditionLists) (i : ℕ) → NoneBefore l x.number i → FindsAfter l (insert l i x) x
finds_insert l x zero none q = refl
finds_insert [] x (suc i) none q = refl
finds_insert (y ∷ l) x (suc i) none q = grind (arith, nat_tests, none 0 (omega arith), finds_insert l x i (none_before_tail y l x.number i none) q)
