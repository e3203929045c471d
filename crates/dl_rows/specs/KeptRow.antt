-- How the fields of a list of numbers hold it.
use Rattle.std.specs.Prelude.{ℕ, ◌≤◌, ◌-◌, take}
use Rattle.std.specs.Vec.{vec_len, vec_capacity}
use Rattle.dl_rows.specs.declared.row.Numbers.{Numbers}
use Rattle.dl_rows.specs.declared.row.Numbers.TheVariants.{Few, Many}
use Rattle.dl_rows.specs.Listed.{Listed}

abbrev pub row_of : Numbers → Listed ℕ
row_of (Few len numbers) = record { items = take len numbers; spare = 3 - len }
row_of (Many list) = record { items = list.value.items; spare = vec_capacity list.value - vec_len list.value }

-- no more numbers are told of than stand in place
abbrev pub IsKeptRow : Numbers → Type 0
IsKeptRow (Few len numbers) = len ≤ 3
IsKeptRow (Many list) = Unit {0}
