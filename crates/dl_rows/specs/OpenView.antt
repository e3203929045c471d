-- How the fields of a table with room for more hold its lists.
use Rattle.std.specs.Prelude.{ℕ, Bool, cond, List, [], ◌∷◌, map}
use Rattle.dl_rows.specs.declared.open_rows.OpenRows.TheInside.{Inside}
use Rattle.dl_rows.specs.Listed.{Listed}
use Rattle.dl_rows.specs.Tables.{RowLists}

-- the room of each list that is not shared
abbrev pub rooms : List Bool → List (Listed ℕ) → List ℕ
rooms owned [] = []
rooms [] (row ∷ rows) = []
rooms (o ∷ owned) (row ∷ rows) = cond o row.spare 0 ∷ rooms owned rows

abbrev pub open_of : Inside → RowLists
open_of t = record { lists = map (λ v. v.items) t.rows.items; spare = rooms t.rows.owned t.rows.items }
