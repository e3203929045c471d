-- Names of files: those of sessions, where their replies go, and lists of names.
use Rattle.std.specs.Prelude.{◌≡◌, ℕ, Bool, false, List, [], ◌∷◌, ◌++◌, map, ◌||◌, codes}
use Rattle.std.specs.Str.{bytes_eq}

-- where the replies to the requests under a name go
abbrev pub output_name : List ℕ → List ℕ
output_name name = name ++ codes ".out"

abbrev pub output_names : List (List ℕ) → List (List ℕ)
output_names names = map output_name names

-- one of the others is this name
abbrev pub is_among : List ℕ → List (List ℕ) → Bool
is_among name [] = false
is_among name (other ∷ more) = bytes_eq other name || is_among name more

-- no name comes twice
abbrev pub AreDistinct : List (List ℕ) → Type 0
AreDistinct [] = Unit {0}
AreDistinct (name ∷ more) = (is_among name more ≡ false) × AreDistinct more

-- none of the names is one of the others
abbrev pub AreApart : List (List ℕ) → List (List ℕ) → Type 0
AreApart [] others = Unit {0}
AreApart (name ∷ more) others = (is_among name others ≡ false) × AreApart more others

-- a list grew by the first of these names
abbrev pub GrowsBy : List (List ℕ) → List (List ℕ) → List (List ℕ) → Type 0
GrowsBy old new names = (first : List (List ℕ)) × (more : List (List ℕ)) × (names ≡ first ++ more) × (new ≡ old ++ first)
