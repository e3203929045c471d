-- Legal histories, and the state after one.
use Rattle.std.specs.Prelude.{ℕ, ◌+◌, Bool, true, false, List, [], ◌∷◌, ◌++◌, map, filter}
use Rattle.dl_turn.specs.History.{lines_of}
use Rattle.dl_theory.specs.Lists.{TheoryLists}
use Rattle.dl_theory.specs.Edits.{after_edit}
use Rattle.dl_calls.specs.declared.call.Call.{Call}
use Rattle.dl_calls.specs.declared.call.Call.TheVariants.{Enrol, Edit, Publish, Hold}
use Rattle.dl_calls.specs.declared.reply.Reply.{Reply}
use Rattle.dl_calls.specs.declared.reply.Reply.TheVariants.{Edited}
use Rattle.dl_calls.specs.declared.entry.Entry.{Entry}
use Rattle.dl_calls.specs.Reasoner.{State, opening, IsStep}

-- the one state that a call with this reply can lead to
abbrev pub next : State → Call → Reply → State
next s Enrol reply = record s { count = s.count + 1 }
next s (Edit e) Edited = record s { draft = after_edit s.draft e }
next s (Edit e) _ = s
next s Publish reply = record s { editions = s.editions ++ s.draft ∷ [] }
next s (Hold n) reply = s

abbrev pub after : State → Entry → State
after s e = next s e.call e.reply

-- the state that entries lead to, one after another
abbrev pub after_all : State → List Entry → State
after_all s [] = s
after_all s (e ∷ more) = after_all (after s e) more

-- each entry is a step of its own seat, from the state that those before it lead to
abbrev pub Runs : State → List Entry → Type 0
Runs s [] = Unit {0}
Runs s (e ∷ more) = IsStep s e.seat e.call e.reply (after s e) × Runs (after s e) more

-- a history that a reasoner of this theory can have
abbrev pub IsLegal : TheoryLists → List Entry → Type 0
IsLegal T history = Runs (opening T) history

-- the state after a history
abbrev pub state_after : TheoryLists → List Entry → State
state_after T history = after_all (opening T) history

-- the entries of a seat, in order
abbrev pub entries_of : ℕ → List Entry → List Entry
entries_of seat history = lines_of (λ e. e.seat) seat history

abbrev pub is_enrol : Call → Bool
is_enrol Enrol = true
is_enrol (Edit e) = false
is_enrol Publish = false
is_enrol (Hold n) = false

-- the seats of the enrolments, in order
abbrev pub enrolled_seats : List Entry → List ℕ
enrolled_seats history = map (λ e. e.seat) (filter (λ e. is_enrol e.call) history)
