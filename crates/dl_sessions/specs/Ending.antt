-- How the code comes to sessions that were served. Only the code needs these.
use Rattle.std.specs.Prelude.{◌≡◌, ℕ, List, None, All}
use Rattle.atomic_table.specs.Seated.{TableId}
use Rattle.dl_theory.specs.Lists.{TheoryLists}
use Rattle.dl_turn.specs.History.{StartsWith, HasLines}
use Rattle.dl_calls.specs.declared.entry.Entry.{Entry}
use Rattle.dl_calls.specs.Histories.{IsLegal}
use Rattle.dl_desk.specs.Offices.{SeatLists, MayCall}
use Rattle.dl_session.specs.declared.end.End.{End}
use Rattle.dl_session.specs.Ends.{IsSession, HasCause}
use Rattle.dl_sessions.specs.Halls.{IsEnrolled}
use Rattle.dl_sessions.specs.Served.{Told, IsServed, AllAt}

-- a session can be served from the seat at the desk
pub record MayServe (desk : TableId) (seat : SeatLists) : Type 0 where
  pub place : seat.place ≡ desk
  pub may : MayCall seat

-- the seat can be joined into one of the desk
pub record MayJoin (desk : TableId) (seat : SeatLists) : Type 0 where
  pub place : seat.place ≡ desk
  pub within : seat.out ≡ None

-- what serving a session did to its seat and to what its streams tell
pub record EndsBy (old new : Told) (seat seat_now : SeatLists) (end : End) : Type 0 where
  pub session : IsSession old.rest new.rest old.written new.written seat seat_now end
  pub handed : old.handed ≡ old.written → IsSession old.rest new.rest old.handed new.handed seat seat_now end
  pub cause : HasCause old.read_faults new.read_faults old.write_faults new.write_faults end
  pub source_name : new.source_name ≡ old.source_name
  pub sink_name : new.sink_name ≡ old.sink_name

-- a session was served from an enrolled seat
pub record HasEnded (desk : TableId) (T : TheoryLists) (number : ℕ) (old new : Told) (seat_now : SeatLists) (end : End) : Type 0 where
  pub seat : SeatLists
  pub enrolled : IsEnrolled desk T number seat
  pub by : EndsBy old new seat seat_now end

-- The history is legal, begins with what the seat has seen, and has of each number that was joined into the seat just these entries.
pub record Closes (T : TheoryLists) (seat : SeatLists) (history : List Entry) (count : ℕ) : Type 0 where
  pub legal : IsLegal T history
  pub seen : StartsWith history seat.seen
  pub lines : All (HasLines (λ e. e.seat) history count) seat.olds

-- by any history that closes the seat, the sessions were served
abbrev pub Serves : {A B : Type 0} → (A → Told) → (B → Told) → (B → End) → TheoryLists → SeatLists → List A → List B → Type 0
Serves before after end T seat streams sessions =
    (history : List Entry) (count : ℕ) → Closes T seat history count
    → AllAt (λ number s session. IsServed T history number (before s) (after session) (end session)) 0 streams sessions
