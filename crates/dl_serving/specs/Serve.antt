-- What serving sessions does to a house, and how the program ends then.
use Rattle.std.specs.Prelude.{◌≡◌, ◌⊎◌, ℕ, ◌+◌, ◌≤◌, Bool, List, [], ◌∷◌, ◌++◌, length, map, All, Option, Some, IsTrue}
use Rattle.std.specs.List.{AllZip, range_with_len}
use Rattle.std.specs.Io.KnownBytes.{prepend_known}
use Rattle.dl_io.specs.Outside.{Rose}
use Rattle.dl_io.specs.Streams.{IsFront}
use Rattle.dl_io.specs.House.{HouseState, standard}
use Rattle.dl_theory.specs.Lists.{TheoryLists}
use Rattle.dl_turn.specs.History.{AllBelow}
use Rattle.dl_calls.specs.declared.entry.Entry.{Entry}
use Rattle.dl_calls.specs.Histories.{IsLegal, state_after, entries_of, enrolled_seats}
use Rattle.dl_calls.specs.Spelled.{IsSpelled}
use Rattle.dl_lines.specs.declared.reader.TheConstants.{MOST_BYTES}
use Rattle.dl_session.specs.declared.end.End.{End}
use Rattle.dl_session.specs.declared.end.End.TheVariants.{Done, ReadFault, WriteFault, Spent}
use Rattle.dl_session.specs.Ends.{IsEnd, HasCause}
use Rattle.dl_sessions.specs.Served.{enrolment}
use Rattle.dl_journal.specs.Journal.{served_text}
use Rattle.dl_words.specs.Names.{output_name}
use Rattle.dl_files.specs.declared.status.Status.{Status}
use Rattle.dl_files.specs.declared.status.Status.TheVariants as status
use Rattle.dl_files.specs.Theories.{IsTheoryFile}

-- a session: what it took of its input and what it left of it, what its output got, and how it ended
pub record Account : Type 0 where
  pub taken : List ℕ
  pub left : Option (List ℕ)
  pub output : List ℕ
  pub end : End

-- The entries of a seat are its enrolment and those of its session. What it took, what its output got and how it ended are those of a
-- session with these entries, by the editions of the whole history.
pub record IsSessionOf (T : TheoryLists) (history : List Entry) (seat : ℕ) (account : Account) : Type 0 where
  pub entries : List Entry
  pub own : entries_of seat history ≡ enrolment seat ∷ entries
  pub ends : IsEnd (state_after T history).editions entries account.taken account.left account.output account.end

-- the same of each session, in order, from this seat on
abbrev pub AreSessionsOf : TheoryLists → List Entry → ℕ → List Account → Type 0
AreSessionsOf T history seat [] = Unit {0}
AreSessionsOf T history seat (account ∷ more) = IsSessionOf T history seat account × AreSessionsOf T history (seat + 1) more

-- The sessions made one history that the reasoner of one thread can have from this theory: it enrols the sessions, each once and in
-- order, and each entry is one of a session. Its entries are spelled, so its journal tells which history it is.
pub record AreServed (T : TheoryLists) (history : List Entry) (accounts : List Account) : Type 0 where
  pub legal : IsLegal T history
  pub enrolled : enrolled_seats history ≡ range_with_len 0 (length accounts)
  pub seats : AllBelow (λ e. e.seat) (length accounts) history
  pub sessions : AreSessionsOf T history 0 accounts
  pub spelled : All IsSpelled history

-- What the house has of a session under its name: the output is what was handed on. A count of faults rose only by an end of its own.
pub record IsAccountOf (tells : Bool) (old new : HouseState) (name : List ℕ) (account : Account) : Type 0 where
  pub input : old.holds name ≡ prepend_known account.taken account.left
  pub left : new.left name ≡ account.left
  pub within : length account.taken ≤ MOST_BYTES
  pub output : IsTrue tells → new.wrote (output_name name) ≡ Some account.output
  pub cause : HasCause (old.share name) (new.share name) (old.share_out (output_name name)) (new.share_out (output_name name)) account.end

-- how the program ends after its sessions: by the first that is not done
abbrev pub ends_status : List End → Status
ends_status [] = status.Done
ends_status (Done ∷ more) = ends_status more
ends_status (ReadFault ∷ more) = status.Fault
ends_status (WriteFault ∷ more) = status.Fault
ends_status (Spent ∷ more) = status.Spent

abbrev pub ends_of : List Account → List End
ends_of accounts = map (λ account. account.end) accounts

-- no write to standard output failed: it has the text, and the status is that of the sessions
pub record IsPrinted (tells : Bool) (old new : HouseState) (text : List ℕ) (expected ends : Status) : Type 0 where
  pub no_fault : new.share_out standard ≡ old.share_out standard
  pub wrote : IsTrue tells → new.wrote standard ≡ Some text
  pub same : ends ≡ expected

-- a write to standard output failed: it has a front of the text
pub record IsCut (tells : Bool) (old new : HouseState) (text : List ℕ) (ends : Status) : Type 0 where
  pub rose : Rose (old.share_out standard) (new.share_out standard)
  pub wrote : IsTrue tells → (front : List ℕ) × IsFront front text × (new.wrote standard ≡ Some front)
  pub fault : ends ≡ status.Fault

abbrev pub Prints : Bool → HouseState → HouseState → List ℕ → Status → Status → Type 0
Prints tells old new text expected ends = IsPrinted tells old new text expected ends ⊎ IsCut tells old new text ends

-- Sessions from the theory in a file were served under these names, and the journal and the ends were printed.
pub record HasServed (tells : Bool) (old new : HouseState) (theory : List ℕ) (names outputs : List (List ℕ)) (ends : Status) : Type 0 where
  pub T : TheoryLists
  pub history : List Entry
  pub accounts : List Account
  pub asked_in : new.asked_in ≡ old.asked_in ++ theory ∷ names
  pub asked_out : new.asked_out ≡ old.asked_out ++ outputs
  pub loads : IsTrue tells → (bytes : List ℕ) × (old.holds theory ≡ Some bytes) × IsTheoryFile bytes T
  pub served : AreServed T history accounts
  pub told : AllZip (IsAccountOf tells old new) names accounts
  pub printed : Prints tells old new (served_text history (ends_of accounts)) (ends_status (ends_of accounts)) ends
  pub calm : ends ≡ status.Done → new.faults ≡ old.faults
  pub rose : ends ≡ status.Fault → Rose old.faults new.faults

-- an opening failed, or a read of the theory
pub record HasFailed (old new : HouseState) (theory : List ℕ) (ends : Status) : Type 0 where
  pub fault : ends ≡ status.Fault
  pub rose : Rose old.faults new.faults
  pub cause : Rose old.own new.own ⊎ Rose (old.share theory) (new.share theory)

-- there was no memory, and nothing failed
pub record HasLacked (old new : HouseState) (ends : Status) : Type 0 where
  pub memory : ends ≡ status.Memory
  pub no_fault : new.faults ≡ old.faults

-- No session began: nothing was written to standard output, nor under any other name.
pub record HasStopped (tells : Bool) (old new : HouseState) (theory : List ℕ) (ends : Status) : Type 0 where
  pub nothing : IsTrue tells → (name : List ℕ) → (new.wrote name ≡ old.wrote name) ⊎ (new.wrote name ≡ Some [])
  pub cause : HasFailed old new theory ends ⊎ HasLacked old new ends

-- the two cases
abbrev pub Serves : Bool → HouseState → HouseState → List ℕ → List (List ℕ) → List (List ℕ) → Status → Type 0
Serves tells old new theory names outputs ends = HasServed tells old new theory names outputs ends ⊎ HasStopped tells old new theory ends
