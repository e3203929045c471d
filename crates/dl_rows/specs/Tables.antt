-- A table of lists of numbers.
use Rattle.std.specs.Prelude.{◌≡◌, ℕ, ◌<◌, ◌≤◌, ◌==◌, not, List, [], length, get_or, filter}

-- the lists, and how many numbers more each of them takes without memory: none where it is shared
pub record RowLists : Type 0 where
  pub lists : List (List ℕ)
  pub spare : List ℕ

abbrev pub no_table : RowLists
no_table = record { lists = []; spare = [] }

-- the list at a place, which is empty past the end
abbrev pub list_of : List (List ℕ) → ℕ → List ℕ
list_of lists n = get_or lists n []

-- the list of a table at a number, which is empty past the end
abbrev pub list_at : RowLists → ℕ → List ℕ
list_at t n = get_or t.lists n []

abbrev pub spare_at : RowLists → ℕ → ℕ
spare_at t n = get_or t.spare n 0

-- a list that is there has room for one more number, and so is the table's own
abbrev pub IsOpen : RowLists → ℕ → Type 0
IsOpen t n = n < length t.lists → 0 < spare_at t n

-- no list is longer or shorter, and none has less room
pub record KeepsLists (old new : RowLists) : Type 0 where
  pub lists : (n : ℕ) → list_at new n ≡ list_at old n
  pub wide : length old.lists ≤ length new.lists
  pub room : (n : ℕ) → spare_at old n ≤ spare_at new n

-- the numbers without x
abbrev pub drop_item : ℕ → List ℕ → List ℕ
drop_item x xs = filter (λ y. not (y == x)) xs
