-- What ties rules by number to the lists that lead to them.
use Rattle.std.specs.Prelude.{◌≡◌, ℕ, ◌≤◌, Option, List, length, map, All, Contains}
use Rattle.std.specs.List.{range_with_len}
use Rattle.dl_rows.specs.Rows.{places}
use Rattle.dl_rows.specs.Tables.{RowLists, list_at}
use Rattle.dl_rules.specs.Lines.{Line, IsThere, heads_row, uses_row}

-- each list has the numbers of the rules with a literal, in ascending order
pub record HasRules (lines : List (Option Line)) (heads uses : RowLists) : Type 0 where
  pub by_head : (n : ℕ) → list_at heads n ≡ places heads_row lines n
  pub by_use : (n : ℕ) → list_at uses n ≡ places uses_row lines n
  pub as_wide : length heads.lists ≤ length uses.lists

-- a rule is above another in both tables, and each is there
pub record HasLinks (lines : List (Option Line)) (lowers uppers : RowLists) : Type 0 where
  pub lower_there : (s : ℕ) → All (IsThere lines) (list_at lowers s)
  pub upper_there : (s : ℕ) → All (IsThere lines) (list_at uppers s)
  pub turned : (s t : ℕ) → Contains (list_at lowers s) t → Contains (list_at uppers t) s
  pub turned_back : (s t : ℕ) → Contains (list_at uppers t) s → Contains (list_at lowers s) t

-- the lists at the first numbers
abbrev pub by_number : ℕ → RowLists → List (List ℕ)
by_number n t = map (list_at t) (range_with_len 0 n)
