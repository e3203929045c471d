-- Which of some entries each number has.
use Rattle.std.specs.Prelude.{◌≡◌, ℕ, ◌<◌, Bool, true, false, List, [], All, Contains, get_or}

-- the entry of each number, how many entries there are, for how many numbers more there is memory, whether an entry can come twice, and
-- for which entries there is memory to do so
pub record EntryLists : Type 0 where
  pub entries : List ℕ
  pub count : ℕ
  pub spare : ℕ
  pub apart : Bool
  pub owned : List Bool

abbrev pub no_entries : EntryLists
no_entries = record { entries = []; count = 0; spare = 4294967295; apart = false; owned = [] }

-- there is memory for the entry to come once more
abbrev pub CanRepeat : EntryLists → ℕ → Type 0
CanRepeat e entry = get_or e.owned entry false ≡ true

-- each number has one of so many entries, and each of these some number has
pub record AreEntered (entries : List ℕ) (count : ℕ) : Type 0 where
  pub within : All (λ e. e < count) entries
  pub met : (e : ℕ) → e < count → Contains entries e
