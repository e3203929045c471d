-- Laws of entries and histories.
use Rattle.std.specs.Prelude.{◌≡◌, ℕ, List, [], ◌∷◌, ◌++◌, All}
use Rattle.std.specs.List.{range_with_len}
use Rattle.dl_turn.specs.History.{StartsWith, AllBelow}
use Rattle.dl_theory.specs.Lists.{TheoryLists, IsWellFormed}
use Rattle.dl_calls.specs.declared.call.Call.{Call}
use Rattle.dl_calls.specs.declared.reply.Reply.{Reply}
use Rattle.dl_calls.specs.declared.entry.Entry.{Entry}
use Rattle.dl_calls.specs.Reasoner.{State, IsStep}
use Rattle.dl_calls.specs.Histories.{next, state_after, IsLegal, enrolled_seats}
use Rattle.dl_calls.specs.Spelled.{IsSpelled}
use Rattle.dl_calls.specs.Text.{entry_text, journal_text}

-- an entry that has this one's line is this one
abbrev pub LineTells : Entry → Type 0
LineTells x = (y : Entry) → IsSpelled x → IsSpelled y → entry_text x ≡ entry_text y → x ≡ y

-- two entries with one line are one
abbrev pub LinesTellEntries : Type 0
LinesTellEntries = (x : Entry) → LineTells x

-- two histories with one journal are one
abbrev pub JournalsTellHistories : Type 0
JournalsTellHistories = (xs ys : List Entry) → All IsSpelled xs → All IsSpelled ys → journal_text xs ≡ journal_text ys → xs ≡ ys

-- a step leads to the state that its call and reply tell
abbrev pub RepliesTellStates : Type 0
RepliesTellStates = (s end : State) (seat : ℕ) (call : Call) (reply : Reply) → IsStep s seat call reply end → end ≡ next s call reply

-- what a legal history begins with is legal, and the editions after it stay, in order, before those that come later
pub record Extends (T : TheoryLists) (first more : List Entry) : Type 0 where
  pub legal : IsLegal T first
  pub editions : StartsWith (state_after T (first ++ more)).editions (state_after T first).editions

abbrev pub EditionsStay : Type 0
EditionsStay = (T : TheoryLists) (first more : List Entry) → IsLegal T (first ++ more) → Extends T first more

-- each entry of a legal history is of an enrolled seat
abbrev pub SeatsAreEnrolled : Type 0
SeatsAreEnrolled = (T : TheoryLists) (history : List Entry) → IsLegal T history → AllBelow (λ e. e.seat) (state_after T history).count history

-- the enrolments of a legal history are those of the seats from 0 on, each once, in order
abbrev pub EnrolmentsCountUp : Type 0
EnrolmentsCountUp = (T : TheoryLists) (history : List Entry) → IsLegal T history → enrolled_seats history ≡ range_with_len 0 (state_after T history).count

-- the last entry of a legal history is a step of the state before it
abbrev pub LastEntryIsAStep : Type 0
LastEntryIsAStep =
    (T : TheoryLists) (history : List Entry) (e : Entry) → IsLegal T (history ++ e ∷ [])
    → IsStep (state_after T history) e.seat e.call e.reply (state_after T (history ++ e ∷ []))

-- the draft and each edition of a state are well formed
pub record HasWellFormed (s : State) : Type 0 where
  pub draft : IsWellFormed s.draft
  pub editions : All IsWellFormed s.editions

abbrev pub TheoriesStayWellFormed : Type 0
TheoriesStayWellFormed = (T : TheoryLists) (history : List Entry) → IsWellFormed T → IsLegal T history → HasWellFormed (state_after T history)
