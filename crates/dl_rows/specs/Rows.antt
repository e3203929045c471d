-- Lists of numbers that belong to the members of a list, and the same lists turned round.
use Rattle.std.specs.Prelude.{ℕ, zero, suc, List, [], ◌∷◌, ◌++◌, replicate}
use Rattle.dl_rows.specs.Counting.{times}

module _ {X : Type 0} (f : X → List ℕ) where
  -- the numbers of the k-th member, and none past the end
  abbrev pub row : List X → ℕ → List ℕ
  row [] k = []
  row (x ∷ xs) zero = f x
  row (x ∷ xs) (suc k) = row xs k

  -- the places, the first of which is k, of the members whose numbers contain q, as often as they do
  abbrev pub places_from : ℕ → List X → ℕ → List ℕ
  places_from k [] q = []
  places_from k (x ∷ xs) q = replicate (times q (f x)) k ++ places_from (suc k) xs q

  abbrev pub places : List X → ℕ → List ℕ
  places xs q = places_from 0 xs q
