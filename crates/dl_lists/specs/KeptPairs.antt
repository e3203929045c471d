-- How the fields of a list of pairs hold it.
use Rattle.std.specs.Prelude.{◌≡◌, ℕ, ◌<◌, ◌≤◌, ◌==◌, true, cond, Option, None, Some, List, length, map, Contains}
use Rattle.dl_pages.specs.Paged.{PagedItems, Owns}
use Rattle.dl_lists.specs.declared.pair_slot.PairSlot.{PairSlot}
use Rattle.dl_lists.specs.declared.pair_places.PairPlaces.{PairPlaces}
use Rattle.dl_lists.specs.declared.pair_numbers.Room.{Room}
use Rattle.dl_lists.specs.declared.pair_numbers.Room.TheVariants.{Nothing, ForPair, ForDrop, ForRule}
use Rattle.dl_lists.specs.declared.pair_numbers.PairNumbers.TheInside.{Inside}
use Rattle.dl_sup.specs.declared.link.Link.{Link}
use Rattle.dl_sup.specs.Links.{link, names_item}
use Rattle.dl_rows.specs.Tables.{RowLists, list_at, spare_at, IsOpen}
use Rattle.dl_lists.specs.Pairs.{PairLists}
use Rattle.dl_rows.specs.There.{there, HasNumber}

abbrev pub pair_in : PairSlot → Option Link
pair_in s = cond (s.upper == 4294967295) None (Some (link s.upper s.lower))

abbrev pub pairs_in : List PairSlot → List (Option Link)
pairs_in slots = map pair_in slots

abbrev pub ready_of : Room → Option Link
ready_of Nothing = None
ready_of (ForPair pair) = Some pair
ready_of (ForDrop pair number) = None
ready_of (ForRule rule) = None

abbrev pub leaving_of : Room → Option Link
leaving_of Nothing = None
leaving_of (ForPair pair) = None
leaving_of (ForDrop pair number) = Some pair
leaving_of (ForRule rule) = None

abbrev pub clearing_of : Room → Option ℕ
clearing_of Nothing = None
clearing_of (ForPair pair) = None
clearing_of (ForDrop pair number) = None
clearing_of (ForRule rule) = Some rule

abbrev pub pairs_of : Inside → PairLists
pairs_of a = record {
  items = pairs_in a.pairs.items;
  ready = ready_of a.room;
  leaving = leaving_of a.room;
  clearing = clearing_of a.room;
}

-- the number of each pair that is there stands at both of its rules
abbrev pub ArePlaced : List (Option Link) → RowLists → RowLists → Type 0
ArePlaced items uppers lowers =
    (l : Link) (n : ℕ) → HasNumber items l n → Contains (list_at uppers l.upper) n × Contains (list_at lowers l.lower) n

abbrev pub ArePlacedIn : List (Option Link) → Option PairPlaces → Type 0
ArePlacedIn items None = Unit {0}
ArePlacedIn items (Some places) = ArePlaced items places.uppers places.lowers

-- a list has room for one more number
abbrev pub HasRowRoom : RowLists → ℕ → Type 0
HasRowRoom rows n = (n < length rows.lists) × (0 < spare_at rows n)

abbrev pub HasPlaceRoom : Option PairPlaces → Link → Type 0
HasPlaceRoom None l = Unit {0}
HasPlaceRoom (Some places) l = HasRowRoom places.uppers l.upper × HasRowRoom places.lowers l.lower

-- the lists of the rules of a pair may be written
abbrev pub ArePlacesOpen : Option PairPlaces → Link → Type 0
ArePlacesOpen None l = Unit {0}
ArePlacesOpen (Some places) l = IsOpen places.uppers l.upper × IsOpen places.lowers l.lower

-- the rule of a pair that is not this one
abbrev pub other_rule : ℕ → Link → ℕ
other_rule rule l = cond (l.upper == rule) l.lower l.upper

-- what the pairs leave that name a rule and have one of these numbers may be written
abbrev pub CanClearRow : PagedItems PairSlot → RowLists → List ℕ → ℕ → Type 0
CanClearRow pairs others row rule =
    (l : Link) (n : ℕ) → Contains row n → HasNumber (pairs_in pairs.items) l n → names_item rule l ≡ true
    → Owns pairs n × IsOpen others (other_rule rule l)

-- what all pairs leave that name a rule may be written
pub record CanClear (pairs : PagedItems PairSlot) (uppers lowers : RowLists) (rule : ℕ) : Type 0 where
  pub above : CanClearRow pairs lowers (list_at uppers rule) rule
  pub below : CanClearRow pairs uppers (list_at lowers rule) rule
  pub upper : IsOpen uppers rule
  pub lower : IsOpen lowers rule

abbrev pub CanClearIn : PagedItems PairSlot → Option PairPlaces → ℕ → Type 0
CanClearIn pairs None rule = ⊥
CanClearIn pairs (Some places) rule = CanClear pairs places.uppers places.lowers rule

-- there is room for a pair
pub record HasPairRoom (pairs : PagedItems PairSlot) (places : Option PairPlaces) (l : Link) : Type 0 where
  pub room : 0 < pairs.spare
  pub few : length pairs.items < 4294967295
  pub upper : l.upper < 4294967295
  pub lower : l.lower < 4294967295
  pub rows : HasPlaceRoom places l

-- what a pair leaves may be written
pub record CanLeave (pairs : PagedItems PairSlot) (places : Option PairPlaces) (l : Link) (number : ℕ) : Type 0 where
  pub there : HasNumber (pairs_in pairs.items) l number
  pub pair : Owns pairs number
  pub rows : ArePlacesOpen places l

abbrev pub HasRoom : PagedItems PairSlot → Option PairPlaces → Room → Type 0
HasRoom pairs places Nothing = Unit {0}
HasRoom pairs places (ForPair l) = HasPairRoom pairs places l
HasRoom pairs places (ForDrop l number) = CanLeave pairs places l number
HasRoom pairs places (ForRule rule) = CanClearIn pairs places rule

pub record IsKeptPairs (a : Inside) : Type 0 where
  pub placed : ArePlacedIn (pairs_in a.pairs.items) a.places
  pub live : a.live ≡ length (there (pairs_in a.pairs.items))
  pub few : length a.pairs.items ≤ 4294967295
  pub room : HasRoom a.pairs a.places a.room
