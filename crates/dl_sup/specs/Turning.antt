-- A turn of one end of a search.
use Rattle.std.specs.Prelude.{◌≡◌, ℕ, ◌<◌, List, length, Contains, ◌⊎◌}
use Rattle.dl_sup.specs.declared.slot.Slot.{Slot}
use Rattle.dl_sup.specs.declared.slot.Way.{Way}
use Rattle.dl_sup.specs.declared.front.Front.{Front}
use Rattle.dl_sup.specs.declared.search.Turn.{Turn}
use Rattle.dl_sup.specs.declared.search.Turn.TheVariants.{Ended, Met, Open}
use Rattle.dl_sup.specs.Searching.{items_of, item_at, IsFront, work}

pub record Continues (way : Way) (slots : List Slot) (old new : Front) : Type 0 where
  pub front : IsFront way slots new
  pub first : item_at new.visits 0 ≡ item_at old.visits 0

abbrev pub IsTurn : Way → List Slot → Front → Front → List (ℕ × ℕ) → Turn → Type 0
IsTurn way slots old new other Ended = Continues way slots old new × (new.visits ≡ old.visits) × (new.next ≡ length new.visits)
IsTurn way slots old new other (Met here there) =
    Continues way slots old new × (here < length new.visits) × (there < length other) × (item_at new.visits here ≡ item_at other there)
IsTurn way slots old new other Open =
    Continues way slots old new × (work slots new < work slots old)
    × ((x : ℕ) → Contains (items_of new.visits) x → Contains (items_of old.visits) x ⊎ (¬ Contains (items_of other) x))
