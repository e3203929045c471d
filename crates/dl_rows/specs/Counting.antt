-- How often a number stands in a list.
use Rattle.std.specs.Prelude.{ℕ, ◌+◌, ◌==◌, Bool, cond, List, [], ◌∷◌, not, filter}
use Rattle.std.specs.List.{list_any}

-- how often x stands in the list
abbrev pub times : ℕ → List ℕ → ℕ
times x [] = 0
times x (y ∷ ys) = cond (x == y) 1 0 + times x ys

-- whether the number is in the list
abbrev pub is_in : List ℕ → ℕ → Bool
is_in xs n = list_any (λ x. n == x) xs

-- the members, each where it first stands
abbrev pub each_once : List ℕ → List ℕ
each_once [] = []
each_once (x ∷ xs) = x ∷ filter (λ y. not (y == x)) (each_once xs)
