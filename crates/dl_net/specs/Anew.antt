-- The labels of rules that get numbers anew.
use Rattle.std.specs.Prelude.{ℕ, Option, None, Some, List, [], ◌∷◌}
use Rattle.dl_rules.specs.Lines.{Line}

-- the labels of the rules that are there
abbrev pub labels_there : List (List ℕ) → List (Option Line) → List (List ℕ)
labels_there [] lines = []
labels_there (label ∷ labels) [] = []
labels_there (label ∷ labels) (None ∷ lines) = labels_there labels lines
labels_there (label ∷ labels) (Some l ∷ lines) = label ∷ labels_there labels lines
