-- Items by numbers that never move: a number whose item has gone stays empty.
use Rattle.std.specs.Prelude.{◌≡◌, ℕ, Bool, cond, Option, None, Some, List, get_or, option_to_list}
use Rattle.std.specs.List.{flat_map}

-- those that are there, in order
abbrev pub there : {A : Type 0} → List (Option A) → List A
there xs = flat_map option_to_list xs

-- the item has this number
abbrev pub HasNumber : {A : Type 0} → List (Option A) → A → ℕ → Type 0
HasNumber xs x n = get_or xs n None ≡ Some x

-- no item has two numbers
abbrev pub IsOnce : {A : Type 0} → List (Option A) → Type 0
IsOnce {A} xs = (x : A) (m n : ℕ) → HasNumber xs x m → HasNumber xs x n → m ≡ n

-- what stays at a number of which an item goes that does not pass
abbrev pub kept_if : {A : Type 0} → (A → Bool) → Option A → Option A
kept_if passes None = None
kept_if passes (Some x) = cond (passes x) (Some x) None
