-- Distinct labels in the order of their entries.
use Rattle.std.specs.Prelude.{ℕ, List, [], get_or}

-- the label of each entry, and how many of the last are not shared
pub record NameLists : Type 0 where
  pub keys : List (List ℕ)
  pub later : ℕ

abbrev pub no_names : NameLists
no_names = record { keys = []; later = 0 }

-- the name at an entry
abbrev pub name_at : List (List ℕ) → ℕ → List ℕ
name_at names e = get_or names e []
