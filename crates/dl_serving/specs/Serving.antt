-- How the code comes to sessions that were served, or did not begin. Only the code needs these.
use Rattle.std.specs.Prelude.{◌≡◌, ◌⊎◌, ℕ, ◌≤◌, Bool, List, [], length, map, All, Option, Some, IsTrue}
use Rattle.std.specs.Io.KnownBytes.{append_known}
use Rattle.dl_io.specs.Outside.{Rose}
use Rattle.dl_io.specs.Streams.{IsFront}
use Rattle.dl_io.specs.House.{HouseState}
use Rattle.dl_io.specs.declared.house.OpenStop.{OpenStop}
use Rattle.dl_io.specs.declared.house.OpenStop.TheVariants as open_stop
use Rattle.dl_theory.specs.Lists.{TheoryLists}
use Rattle.dl_calls.specs.declared.entry.Entry.{Entry}
use Rattle.dl_calls.specs.Spelled.{IsSpelled}
use Rattle.dl_session.specs.declared.end.End.{End}
use Rattle.dl_sessions.specs.Served.{Told, AreServed}
use Rattle.dl_journal.specs.Journal.{served_text}
use Rattle.dl_journal.specs.Streams.{opened_all, settled_all, AreFresh, begun, Undoes}
use Rattle.dl_files.specs.declared.status.Status.{Status}
use Rattle.dl_files.specs.declared.status.Status.TheVariants as status
use Rattle.dl_files.specs.declared.whole.Stop.{Stop}
use Rattle.dl_files.specs.declared.whole.Stop.TheVariants as stop
use Rattle.dl_serving.specs.Serve.{ends_status}

-- what the streams of a session tell in the end, and how it ended
abbrev pub Closed : Type 0
Closed = Told × End

abbrev pub last_told : List Closed → List Told
last_told sessions = map (λ s. s.0) sessions

abbrev pub closed_ends : List Closed → List End
closed_ends sessions = map (λ s. s.1) sessions

-- sessions at these streams have made this history
abbrev pub AreClosed : TheoryLists → List Told → List Entry → List Closed → Type 0
AreClosed T streams history sessions = AreServed {A = Told} {B = Closed} (λ t. t) (λ s. s.0) (λ s. s.1) T streams history sessions

-- a new sink was handed the text, or a front of it where it failed
abbrev pub PrintsTo : Bool → Option (List ℕ) → ℕ → List ℕ → Status → Status → Type 0
PrintsTo tells handed faults text expected ends =
    ((faults ≡ 0) × (handed ≡ append_known (begun tells) text) × (ends ≡ expected))
    ⊎ (Rose 0 faults × (IsTrue tells → (front : List ℕ) × IsFront front text × (handed ≡ Some front)) × (ends ≡ status.Fault))

-- The sessions of a hall were served, their streams settled, and the journal and the ends printed.
pub record ClosesHall (tells : Bool) (old new : HouseState) (T : TheoryLists) (names : List (List ℕ)) (streams : List Told) (handed : Option (List ℕ)) (faults : ℕ) (ends : Status) : Type 0 where
  pub history : List Entry
  pub sessions : List Closed
  pub served : AreClosed T streams history sessions
  pub spelled : All IsSpelled history
  pub house : new ≡ settled_all old names (last_told sessions)
  pub printed : PrintsTo tells handed faults (served_text history (closed_ends sessions)) (ends_status (closed_ends sessions)) ends

-- There was no memory to begin: the streams were settled as they were.
pub record LeavesHall (tells : Bool) (old new : HouseState) (names : List (List ℕ)) (streams : List Told) (handed : Option (List ℕ)) (faults : ℕ) (ends : Status) : Type 0 where
  pub memory : ends ≡ status.Memory
  pub house : new ≡ settled_all old names streams
  pub nothing : handed ≡ begun tells
  pub no_fault : faults ≡ 0

abbrev pub ServesHall : Bool → HouseState → HouseState → TheoryLists → List (List ℕ) → List Told → Option (List ℕ) → ℕ → Status → Type 0
ServesHall tells old new T names streams handed faults ends =
    ClosesHall tells old new T names streams handed faults ends ⊎ LeavesHall tells old new names streams handed faults ends

-- streams were opened under each name, and there is room for as many ends
pub record HasOpened (tells : Bool) (old new : HouseState) (names opened : List (List ℕ)) (streams : List Told) (ends : List End) (room : ℕ) : Type 0 where
  pub same : opened ≡ names
  pub house : new ≡ opened_all old names
  pub fresh : AreFresh tells old names streams
  pub count : length streams ≡ length names
  pub empty : ends ≡ []
  pub enough : length names ≤ room

-- why there are no sessions
abbrev pub open_stop_of : Stop → OpenStop
open_stop_of stop.Memory = open_stop.Memory
open_stop_of stop.Fault = open_stop.Failed

abbrev pub stop_status : OpenStop → Status
stop_status open_stop.Failed = status.Fault
stop_status open_stop.Memory = status.Memory

-- Not all could be opened, or there was no memory: nothing was printed.
pub record NoSessions (tells : Bool) (old new : HouseState) (names : List (List ℕ)) (handed : Option (List ℕ)) (faults : ℕ) (ends : Status) : Type 0 where
  pub why : OpenStop
  pub undoes : Undoes tells old new names why
  pub same : ends ≡ stop_status why
  pub nothing : handed ≡ begun tells
  pub no_fault : faults ≡ 0

-- All were opened, and the sessions served.
pub record HasSessions (tells : Bool) (old new : HouseState) (T : TheoryLists) (names : List (List ℕ)) (handed : Option (List ℕ)) (faults : ℕ) (ends : Status) : Type 0 where
  pub streams : List Told
  pub fresh : AreFresh tells old names streams
  pub count : length streams ≡ length names
  pub closes : ClosesHall tells (opened_all old names) new T names streams handed faults ends

abbrev pub Sessions : Bool → HouseState → HouseState → TheoryLists → List (List ℕ) → Option (List ℕ) → ℕ → Status → Type 0
Sessions tells old new T names handed faults ends = HasSessions tells old new T names handed faults ends ⊎ NoSessions tells old new names handed faults ends
