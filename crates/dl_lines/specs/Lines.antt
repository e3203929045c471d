-- The lines of some bytes, which are cut at each LF.
use Rattle.std.specs.Prelude.{ℕ, ◌==◌, List, [], ◌∷◌}
use Rattle.std.specs.List.{slice_split}

-- all but the last
abbrev pub but_last : {A : Type 0} → List A → List A
but_last [] = []
but_last (x ∷ []) = []
but_last (x ∷ y ∷ more) = x ∷ but_last (y ∷ more)

-- a line, unless it is empty
abbrev pub unless_empty : List ℕ → List (List ℕ)
unless_empty [] = []
unless_empty (b ∷ bytes) = (b ∷ bytes) ∷ []

-- all but a last one that is empty
abbrev pub but_empty_end : List (List ℕ) → List (List ℕ)
but_empty_end [] = []
but_empty_end (line ∷ []) = unless_empty line
but_empty_end (line ∷ next ∷ more) = line ∷ but_empty_end (next ∷ more)

-- what stands before, between and behind the LFs of some bytes; so the last one has no LF, and may be empty
unfoldable pub raw_lines : List ℕ → List (List ℕ)
raw_lines bytes = slice_split (λ b. b == 10) bytes

-- the lines that have their LF
unfoldable pub whole_lines : List ℕ → List (List ℕ)
whole_lines bytes = but_last (raw_lines bytes)

-- the lines of bytes that nothing follows: the last needs no LF, and there is none where it would be empty
unfoldable pub all_lines : List ℕ → List (List ℕ)
all_lines bytes = but_empty_end (raw_lines bytes)
