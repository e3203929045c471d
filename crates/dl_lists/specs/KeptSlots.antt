-- How a table of numbers holds places, some of which are empty.
use Rattle.std.specs.Prelude.{ℕ, ◌==◌, cond, Option, None, Some, map}
use Rattle.dl_pages.specs.Paged.{PagedItems}

abbrev pub slot_of : ℕ → Option ℕ
slot_of n = cond (n == 4294967295) None (Some n)

abbrev pub slots_of : PagedItems ℕ → PagedItems (Option ℕ)
slots_of table = record { items = map slot_of table.items; owned = table.owned; spare = table.spare }
