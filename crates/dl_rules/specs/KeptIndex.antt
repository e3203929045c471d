-- How the fields of an index hold its rules.
use Rattle.std.specs.Prelude.{◌≡◌, ℕ, ◌<◌, ◌≤◌, ◌^◌, Option, None, Some, length, All}
use Rattle.dl_rules.specs.declared.index.Index.TheInside.{Inside}
use Rattle.dl_rules.specs.declared.entry.Between.{Between}
use Rattle.dl_rules.specs.declared.entry.Room.{Room}
use Rattle.dl_rules.specs.declared.entry.Room.TheVariants.{Nothing, ForRule, ForLink, ForTake, ForUnlink}
use Rattle.dl_pages.specs.Paged.{Owns}
use Rattle.dl_rows.specs.Tables.{spare_at, list_at, IsOpen}
use Rattle.dl_rows.specs.There.{there}
use Rattle.dl_rules.specs.Lines.{Line, Meeting, IndexLists, IsThere, IsWithin, line_at}
use Rattle.dl_rules.specs.Indexes.{HasRules, HasLinks, by_number}

abbrev pub ready_of : Room → Option Line
ready_of Nothing = None
ready_of (ForRule l) = Some l
ready_of (ForLink l) = None
ready_of (ForTake n) = None
ready_of (ForUnlink l) = None

abbrev pub linking_of : Room → Option Meeting
linking_of Nothing = None
linking_of (ForRule l) = None
linking_of (ForLink l) = Some (record { upper = l.upper; lower = l.lower })
linking_of (ForTake n) = None
linking_of (ForUnlink l) = None

abbrev pub taking_of : Room → Option ℕ
taking_of Nothing = None
taking_of (ForRule l) = None
taking_of (ForLink l) = None
taking_of (ForTake n) = Some n
taking_of (ForUnlink l) = None

abbrev pub unlinking_of : Room → Option Meeting
unlinking_of Nothing = None
unlinking_of (ForRule l) = None
unlinking_of (ForLink l) = None
unlinking_of (ForTake n) = None
unlinking_of (ForUnlink l) = Some (record { upper = l.upper; lower = l.lower })

abbrev pub index_of : Inside → IndexLists
index_of a = record {
  lines = a.lines.items;
  lowers = by_number (length a.lines.items) a.lowers;
  uppers = by_number (length a.lines.items) a.uppers;
  width = length a.heads.lists;
  ready = ready_of a.room;
  linking = linking_of a.room;
  taking = taking_of a.room;
  unlinking = unlinking_of a.room;
}

-- room for one more rule
pub record HasRuleRoom (a : Inside) (l : Line) : Type 0 where
  pub within : IsWithin (length a.heads.lists) l
  pub few : length a.lines.items < 2 ^ 32
  pub lines_room : 0 < a.lines.spare
  pub heads_room : 0 < spare_at a.heads l.head
  pub uses_room : All (λ b. 0 < spare_at a.uses b) l.body

-- room for one more rule below another
pub record HasLinkRoom (a : Inside) (l : Between) : Type 0 where
  pub upper : IsThere a.lines.items l.upper
  pub lower : IsThere a.lines.items l.lower
  pub lowers_wide : l.upper < length a.lowers.lists
  pub uppers_wide : l.lower < length a.uppers.lists
  pub lowers_room : 0 < spare_at a.lowers l.upper
  pub uppers_room : 0 < spare_at a.uppers l.lower

-- all that changes where a rule goes can be written
pub record HasTakeRoom (a : Inside) (n : ℕ) : Type 0 where
  pub there : IsThere a.lines.items n
  pub owned : Owns a.lines n
  pub head : IsOpen a.heads (line_at a.lines.items n).head
  pub body : All (IsOpen a.uses) (line_at a.lines.items n).body
  pub lower : IsOpen a.lowers n
  pub upper : IsOpen a.uppers n
  pub below : All (IsOpen a.uppers) (list_at a.lowers n)
  pub above : All (IsOpen a.lowers) (list_at a.uppers n)

-- and where one rule stops to stand below another
pub record HasUnlinkRoom (a : Inside) (l : Between) : Type 0 where
  pub upper : IsThere a.lines.items l.upper
  pub lower : IsThere a.lines.items l.lower
  pub lowers_open : IsOpen a.lowers l.upper
  pub uppers_open : IsOpen a.uppers l.lower

abbrev pub HasRoom : Inside → Room → Type 0
HasRoom a Nothing = Unit {0}
HasRoom a (ForRule l) = HasRuleRoom a l
HasRoom a (ForLink l) = HasLinkRoom a l
HasRoom a (ForTake n) = HasTakeRoom a n
HasRoom a (ForUnlink l) = HasUnlinkRoom a l

pub record IsKeptIndex (a : Inside) : Type 0 where
  pub rules : HasRules a.lines.items a.heads a.uses
  pub links : HasLinks a.lines.items a.lowers a.uppers
  pub few : length a.lines.items ≤ 2 ^ 32
  pub live : a.live ≡ length (there a.lines.items)
  pub room : HasRoom a a.room
