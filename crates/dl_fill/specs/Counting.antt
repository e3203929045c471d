-- How many members two lists of numbers share.
use Rattle.std.specs.Prelude.{ℕ, ◌+◌, List, [], ◌∷◌}
use Rattle.dl_graph.specs.Counting.{times}

-- how often the members of the first list stand in the second, added up
abbrev pub overlap : List ℕ → List ℕ → ℕ
overlap [] ys = 0
overlap (x ∷ xs) ys = times x ys + overlap xs ys
