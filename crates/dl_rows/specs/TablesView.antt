-- How a table holds its lists.
use Rattle.std.specs.Prelude.{ℕ, List, map}
use Rattle.std.specs.Arc.{arc_value}
use Rattle.dl_rows.specs.declared.row_table.Rows.{Rows}
use Rattle.dl_rows.specs.declared.row_table.Rows.TheVariants.{Packed, Shared, Open}
use Rattle.dl_rows.specs.Tables.{RowLists}

-- packed lists have no room that is known of
abbrev pub packed_table : List (List ℕ) → RowLists
packed_table lists = record { lists = lists; spare = map (λ _. 0) lists }

abbrev pub table_of : Rows → RowLists
table_of (Packed rows) = packed_table rows
table_of (Shared rows) = packed_table (arc_value rows)
table_of (Open rows) = rows
