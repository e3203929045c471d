-- How the fields of a list in pages hold it.
use Rattle.std.specs.Prelude.{◌≡◌, ℕ, ◌+◌, ◌*◌, ◌^◌, ◌<◌, ◌≤◌, true, List, length, get_or}
use Rattle.dl_pages.specs.Paged.{PagedItems}
use Rattle.dl_pages.specs.Pages.{PageItems, parts, flags, items_of, owned_of, Filled}

module _ {T : Type 0} where
  abbrev pub paged_of : List (PageItems T) → ℕ → PagedItems T
  paged_of pages spare = record { items = items_of pages; owned = owned_of pages; spare = spare }

  -- the pages of so many elements, with room for so many more
  pub record IsKept (pages : List (PageItems T)) (len spare : ℕ) : Type 0 where
    pub filled : Filled (parts pages) len
    pub small : len + spare < 2 ^ 64
    pub room : len + spare ≤ 64 * length pages
    -- the pages into which the next elements go are owned
    pub ready : 0 < spare → (k : ℕ) → len < 64 * (k + 1) → 64 * k < len + spare → get_or (flags pages) k true ≡ true
