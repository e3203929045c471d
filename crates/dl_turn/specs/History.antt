-- A history is a list of lines, each of the number of the seat that made it.
use Rattle.std.specs.Prelude.{◌≡◌, ℕ, ◌<◌, ◌==◌, List, [], ◌++◌, Option, Some, None, All, filter}

-- the history begins with these lines
abbrev pub StartsWith : {L : Type 0} → List L → List L → Type 0
StartsWith {L} history first = (rest : List L) × (history ≡ first ++ rest)

module _ {L : Type 0} (number : L → ℕ) where
  -- the lines of a number, in order
  abbrev pub lines_of : ℕ → List L → List L
  lines_of k history = filter (λ l. number l == k) history

  -- the lines of a seat with this number, or with none
  abbrev pub own_lines : Option ℕ → List L → List L
  own_lines None history = []
  own_lines (Some k) history = lines_of k history

  -- each line is of a number below the count
  abbrev pub AllBelow : ℕ → List L → Type 0
  AllBelow count history = All (λ l. number l < count) history

  -- these are all lines that the history has of the number, which is below the count
  abbrev pub HasLines : List L → ℕ → ℕ × List L → Type 0
  HasLines history count e = (e.1 ≡ lines_of e.0 history) × (e.0 < count)
