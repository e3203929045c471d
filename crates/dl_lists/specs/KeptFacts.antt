-- How the fields of a list of facts hold it.
use Rattle.std.specs.Prelude.{◌≡◌, ℕ, ◌<◌, ◌≤◌, Option, None, Some, List, length}
use Rattle.dl_pages.specs.Paged.{PagedItems, Owns}
use Rattle.dl_lists.specs.declared.fact_numbers.Room.{Room}
use Rattle.dl_lists.specs.declared.fact_numbers.Room.TheVariants.{Nothing, ForFact, ForDrop}
use Rattle.dl_lists.specs.declared.fact_numbers.FactNumbers.TheInside.{Inside}
use Rattle.dl_lists.specs.Facts.{FactLists}
use Rattle.dl_rows.specs.There.{there, HasNumber, IsOnce}

abbrev pub ready_of : Room → Option ℕ
ready_of Nothing = None
ready_of (ForFact literal) = Some literal
ready_of (ForDrop literal number) = None

abbrev pub leaving_of : Room → Option ℕ
leaving_of Nothing = None
leaving_of (ForFact literal) = None
leaving_of (ForDrop literal number) = Some literal

abbrev pub facts_of : Inside → FactLists
facts_of a = record { items = a.facts.items; ready = ready_of a.room; leaving = leaving_of a.room }

-- at the number of a literal stands that of its fact
pub record ArePlaced (facts : List (Option ℕ)) (width : ℕ) (places : List (Option ℕ)) : Type 0 where
  pub wide : length places ≡ width
  pub right : (q n : ℕ) → HasNumber places n q → HasNumber facts q n
  pub all : (q n : ℕ) → HasNumber facts q n → HasNumber places n q

abbrev pub ArePlacedIn : List (Option ℕ) → ℕ → Option (PagedItems (Option ℕ)) → Type 0
ArePlacedIn facts width None = Unit {0}
ArePlacedIn facts width (Some places) = ArePlaced facts width places.items

-- the place of a literal may be written, if there are places
abbrev pub OwnsPlace : Option (PagedItems (Option ℕ)) → ℕ → Type 0
OwnsPlace None literal = Unit {0}
OwnsPlace (Some places) literal = Owns places literal

-- there is room for the fact of a literal
pub record HasFactRoom (facts : PagedItems (Option ℕ)) (places : Option (PagedItems (Option ℕ))) (width literal : ℕ) : Type 0 where
  pub room : 0 < facts.spare
  pub few : length facts.items < 4294967295
  pub wide : literal < width
  pub owned : OwnsPlace places literal

-- what the fact of a literal leaves may be written
pub record CanLeave (facts : PagedItems (Option ℕ)) (places : Option (PagedItems (Option ℕ))) (literal number : ℕ) : Type 0 where
  pub there : HasNumber facts.items literal number
  pub fact : Owns facts number
  pub place : OwnsPlace places literal

abbrev pub HasRoom : PagedItems (Option ℕ) → Option (PagedItems (Option ℕ)) → ℕ → Room → Type 0
HasRoom facts places width Nothing = Unit {0}
HasRoom facts places width (ForFact literal) = HasFactRoom facts places width literal
HasRoom facts places width (ForDrop literal number) = CanLeave facts places literal number

pub record IsKeptFacts (a : Inside) : Type 0 where
  pub within : (q n : ℕ) → HasNumber a.facts.items q n → q < a.width
  pub once : IsOnce a.facts.items
  pub placed : ArePlacedIn a.facts.items a.width a.places
  pub live : a.live ≡ length (there a.facts.items)
  pub narrow : a.width ≤ 4294967295
  pub few : length a.facts.items ≤ 4294967295
  pub room : HasRoom a.facts a.places a.width a.room
