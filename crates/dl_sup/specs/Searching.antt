-- A search along pairs.
use Rattle.std.specs.Prelude.{◌≡◌, ℕ, zero, suc, ◌+◌, ◌-◌, ◌*◌, ◌<◌, ◌≤◌, List, [], ◌∷◌, ◌++◌, map, length, get_or, All, Contains, ◌⊎◌, Option, None, Some, true}
use Rattle.dl_base.specs.Paths.{IsDistinct, Descends, last_of}
use Rattle.dl_sup.specs.declared.link.Link.{Link}
use Rattle.dl_sup.specs.declared.slot.Slot.{Slot}
use Rattle.dl_sup.specs.declared.front.Front.{Front}
use Rattle.dl_sup.specs.declared.slot.Way.{Way}
use Rattle.dl_sup.specs.declared.slot.Way.TheVariants.{Down, Up}
use Rattle.dl_sup.specs.Links.{IsOver}
use Rattle.dl_sup.specs.HeadLists.{HeadLists, head_of}
use Rattle.dl_sup.specs.Slots.{near, far, older, slot_at, IsAlive, live}

abbrev pub items_of : List (ℕ × ℕ) → List ℕ
items_of visits = map (λ v. v.0) visits

abbrev pub item_at : List (ℕ × ℕ) → ℕ → ℕ
item_at visits at = (get_or visits at (0, 0)).0

abbrev pub from_at : List (ℕ × ℕ) → ℕ → ℕ
from_at visits at = (get_or visits at (0, 0)).1

abbrev pub Leads : Way → List Link → ℕ → ℕ → Type 0
Leads Down pairs x y = IsOver pairs x y
Leads Up pairs x y = IsOver pairs y x

-- one end of a search: what it met, and the pairs that it followed
pub record IsFront (way : Way) (slots : List Slot) (f : Front) : Type 0 where
  pub started : 0 < length f.visits
  pub turned : f.next ≤ length f.visits
  pub traced : (k : ℕ) → 0 < k → k < length f.visits
      → (from_at f.visits k < k) × Leads way (live slots) (item_at f.visits (from_at f.visits k)) (item_at f.visits k)
  pub distinct : IsDistinct (items_of f.visits)
  pub within : All (Contains (item_at f.visits 0 ∷ map (far way) slots)) (items_of f.visits)
  pub passed : (k t : ℕ) → k < f.next → IsAlive slots t → near way (slot_at slots t) ≡ item_at f.visits k
      → Contains (items_of f.visits) (far way (slot_at slots t))
  pub current : (t : ℕ) → f.next < length f.visits → f.cursor ≤ t → IsAlive slots t → near way (slot_at slots t) ≡ item_at f.visits f.next
      → Contains (items_of f.visits) (far way (slot_at slots t))
  pub short : f.cursor ≤ length slots
  pub chain : (t : ℕ) → f.next < length f.visits → f.cursor ≡ suc t → near way (slot_at slots t) ≡ item_at f.visits f.next

-- an upper bound on the steps that are left
abbrev pub work : List Slot → Front → ℕ
work slots f = (length slots + 1 - f.next) * (length slots + 1) + f.cursor

pub record Begins (item : ℕ) (heads : HeadLists) (f : Front) : Type 0 where
  pub visits : f.visits ≡ (item, 0) ∷ []
  pub next : f.next ≡ 0
  pub cursor : f.cursor ≡ head_of heads item

pub record Turns (heads : HeadLists) (old new : Front) : Type 0 where
  pub visits : new.visits ≡ old.visits
  pub next : new.next ≡ old.next + 1
  pub cursor : new.next < length new.visits → new.cursor ≡ head_of heads (item_at new.visits new.next)
  pub past : length new.visits ≤ new.next → new.cursor ≡ 0

-- whether the pair led to an item that was not met before
abbrev pub Meets : Way → Slot → Front → Front → Option ℕ → Type 0
Meets way s old new None = (new.visits ≡ old.visits) × (s.alive ≡ true → Contains (items_of old.visits) (far way s))
Meets way s old new (Some item) =
    (new.visits ≡ old.visits ++ (item, old.next) ∷ []) × (s.alive ≡ true) × (item ≡ far way s) × (¬ Contains (items_of old.visits) item)

pub record Follows (way : Way) (s : Slot) (old new : Front) (met : Option ℕ) : Type 0 where
  pub next : new.next ≡ old.next
  pub cursor : new.cursor ≡ older way s
  pub meets : Meets way s old new met

-- each item was met from an earlier one
abbrev pub Falls : List (ℕ × ℕ) → Type 0
Falls visits = (k : ℕ) → 0 < k → k < length visits → from_at visits k < k

-- the items from which a search came to a place, at most n of them
abbrev pub trail_by : ℕ → List (ℕ × ℕ) → ℕ → List ℕ
trail_by zero visits at = []
trail_by (suc n) visits zero = []
trail_by (suc n) visits (suc at) = item_at visits (from_at visits (suc at)) ∷ trail_by n visits (from_at visits (suc at))

abbrev pub trail : List (ℕ × ℕ) → ℕ → List ℕ
trail visits at = trail_by at visits at

-- from an item down to another one, by pairs
pub record IsWalk (pairs : List Link) (first last : ℕ) (track : List ℕ) : Type 0 where
  pub rest : List ℕ
  pub begins : track ≡ first ∷ rest
  pub ends : last_of (IsOver pairs) first rest ≡ last
  pub descends : Descends (IsOver pairs) first rest

-- items that no pair leads out of, downwards
pub record ClosedBelow (pairs : List Link) (from to : ℕ) : Type 0 where
  pub seen : List ℕ
  pub has : Contains seen from
  pub lacks : ¬ Contains seen to
  pub closed : (x y : ℕ) → Contains seen x → IsOver pairs x y → Contains seen y

-- and upwards
pub record ClosedAbove (pairs : List Link) (from to : ℕ) : Type 0 where
  pub seen : List ℕ
  pub has : Contains seen to
  pub lacks : ¬ Contains seen from
  pub closed : (x y : ℕ) → Contains seen y → IsOver pairs x y → Contains seen x

-- no pairs lead from the one down to the other
abbrev pub IsApart : List Link → ℕ → ℕ → Type 0
IsApart pairs from to = ClosedBelow pairs from to ⊎ ClosedAbove pairs from to
