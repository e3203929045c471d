-- A list of which some places may be written.
use Rattle.std.specs.Prelude.{◌≡◌, ℕ, Bool, true, false, List, get_or}

-- the elements; for each place, whether it may be written; and how many elements more go in without memory
pub record PagedItems (T : Type 0) : Type 0 where
  pub items : List T
  pub owned : List Bool
  pub spare : ℕ

module _ {T : Type 0} where
  abbrev pub Owns : PagedItems T → ℕ → Type 0
  Owns list at = get_or list.owned at false ≡ true

  abbrev pub OwnsNothing : PagedItems T → Type 0
  OwnsNothing list = (at : ℕ) → get_or list.owned at false ≡ false

  -- what was owned still is
  abbrev pub KeepsOwned : PagedItems T → PagedItems T → Type 0
  KeepsOwned old new = (at : ℕ) → Owns old at → Owns new at

  -- a copy of an element is that element
  abbrev pub IsExact : (T → T → Type 0) → Type 0
  IsExact is_clone = (x y : T) → is_clone x y → y ≡ x
