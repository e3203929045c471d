-- Pages one after another.
use Rattle.std.specs.Prelude.{◌≡◌, ℕ, ◌-◌, min, Bool, true, false, List, [], ◌∷◌, ◌++◌, map, length, replicate, get_or, set}
use Rattle.std.specs.List.{flat_map}

-- the elements of a page, and whether they may be written
pub record PageItems (T : Type 0) : Type 0 where
  pub items : List T
  pub owned : Bool

module _ {T : Type 0} where
  abbrev pub empty_page : PageItems T
  empty_page = record { items = []; owned = true }

  -- the elements, page by page
  abbrev pub parts : List (PageItems T) → List (List T)
  parts pages = map (λ page. page.items) pages

  -- for each element of a page, whether it may be written
  abbrev pub marks : PageItems T → List Bool
  marks page = replicate (length page.items) page.owned

  -- which pages are owned
  abbrev pub flags : List (PageItems T) → List Bool
  flags pages = map (λ page. page.owned) pages

  abbrev pub items_of : List (PageItems T) → List T
  items_of pages = flat_map (λ part. part) (parts pages)

  abbrev pub owned_of : List (PageItems T) → List Bool
  owned_of pages = flat_map (λ part. part) (map marks pages)

  -- pages with the same elements, of which those are owned that were, and perhaps more
  pub record KeepsPages (old new : List (PageItems T)) : Type 0 where
    pub items : parts new ≡ parts old
    pub owned : (k : ℕ) → get_or (flags old) k true ≡ true → get_or (flags new) k true ≡ true

  -- the page of a number
  abbrev pub page_at : List (PageItems T) → ℕ → PageItems T
  page_at pages number = get_or pages number empty_page

  -- a page with one element more
  abbrev pub pushed : PageItems T → T → PageItems T
  pushed page value = record { items = page.items ++ value ∷ []; owned = page.owned }

  -- a page with an element in the place of another
  abbrev pub written : PageItems T → ℕ → T → PageItems T
  written page at value = record { items = set page.items at value; owned = page.owned }

  -- a page that is owned stands where it may be written
  abbrev pub AreNested : List (PageItems T) → List Bool → Type 0
  AreNested pages places = (k : ℕ) → get_or (flags pages) k false ≡ true → get_or places k false ≡ true

  -- no page is owned
  abbrev pub AreShared : List (PageItems T) → Type 0
  AreShared pages = (k : ℕ) → get_or (flags pages) k false ≡ false

-- of n elements each part has 64, but for the last that has any
abbrev pub Filled : {X : Type 0} → List (List X) → ℕ → Type 0
Filled [] n = n ≡ 0
Filled (part ∷ parts) n = (length part ≡ min 64 n) × Filled parts (n - 64)
