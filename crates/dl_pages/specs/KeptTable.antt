-- How the form of a list holds it.
use Rattle.std.specs.Prelude.{◌-◌, true, false, length, replicate}
use Rattle.std.specs.Arc.{arc_value}
use Rattle.std.specs.Vec.{vec_capacity}
use Rattle.dl_pages.specs.Paged.{PagedItems}
use Rattle.dl_pages.specs.declared.table.Form.{Form}
use Rattle.dl_pages.specs.declared.table.Form.TheVariants.{Flat, Whole, Paged}

module _ {T : Type 0} where
  -- all of a flat list is owned, and nothing of a whole one that is shared
  abbrev pub table_of : Form T → PagedItems T
  table_of (Flat items) =
      record { items = items.items; owned = replicate (length items.items) true; spare = vec_capacity items - length items.items }
  table_of (Whole items) = record { items = (arc_value items).items; owned = replicate (length (arc_value items).items) false; spare = 0 }
  table_of (Paged pages) = pages
