-- How the fields of a page hold its elements.
use Rattle.std.specs.Prelude.{◌≤◌, true, false}
use Rattle.std.specs.Vec.{vec_capacity}
use Rattle.std.specs.Arc.{arc_value}
use Rattle.dl_pages.specs.declared.page.Elements.{Elements}
use Rattle.dl_pages.specs.declared.page.Elements.TheVariants.{Own, Shared}
use Rattle.dl_pages.specs.Pages.{PageItems}

module _ {T : Type 0} where
  abbrev pub page_of : Elements T → PageItems T
  page_of (Own items) = record { items = items.value.items; owned = true }
  page_of (Shared items) = record { items = (arc_value items).items; owned = false }

  -- an owned page has room for a whole one
  abbrev pub IsKeptPage : Elements T → Type 0
  IsKeptPage (Own items) = 64 ≤ vec_capacity items.value
  IsKeptPage (Shared items) = Unit {0}
