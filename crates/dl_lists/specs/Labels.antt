-- Labels by the numbers of their rules.
use Rattle.std.specs.Prelude.{ℕ, Option, None, List, []}

-- the label of each number, and the one for which there is memory
pub record LabelLists : Type 0 where
  pub labels : List (List ℕ)
  pub ready : Option (List ℕ)

abbrev pub no_labels : LabelLists
no_labels = record { labels = []; ready = None }
