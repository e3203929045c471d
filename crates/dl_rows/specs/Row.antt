-- A list of numbers.
use Rattle.std.specs.Prelude.{ℕ, []}
use Rattle.dl_rows.specs.Listed.{Listed}

abbrev pub no_row : Listed ℕ
no_row = record { items = []; spare = 3 }
