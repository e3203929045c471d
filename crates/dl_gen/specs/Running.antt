-- Calls on the way to a summary.
use Rattle.std.specs.Prelude.{◌≡◌, ℕ, List, [], ◌∷◌, ◌++◌, None}
use Rattle.dl_theory.specs.Lists.{TheoryLists}
use Rattle.dl_calls.specs.declared.call.Call.{Call}
use Rattle.dl_calls.specs.declared.call.Call.TheVariants.{Enrol, Edit, Publish}
use Rattle.dl_calls.specs.Reasoner.{State}
use Rattle.dl_calls.specs.Histories.{IsLegal}
use Rattle.dl_edition.specs.Offices.{SeatLists}
use Rattle.dl_desk.specs.Boards.{BoardLists}
use Rattle.dl_draw.specs.Generator.{generated_theory, generated_calls}
use Rattle.dl_summary.specs.Summary.{calls_of}

-- a call that changes the draft or the editions
abbrev pub IsChange : Call → Type 0
IsChange (Edit e) = Unit {0}
IsChange Publish = Unit {0}
IsChange _ = ⊥

-- Between two views of a seat it made these calls, and no others. It keeps its place, its start and its number, and no board is out.
pub record HasMade (old new : SeatLists) (made : List Call) : Type 0 where
  pub place : new.place ≡ old.place
  pub start : new.start ≡ old.start
  pub number : new.number ≡ old.number
  pub within : new.out ≡ None
  pub calls : calls_of new.mine ≡ calls_of old.mine ++ made

-- from T, a seat was enrolled and made these calls, and the history has no others
pub record IsRun (T : TheoryLists) (made : List Call) (board : BoardLists) : Type 0 where
  pub start : board.start ≡ T
  pub legal : IsLegal T board.history
  pub calls : calls_of board.history ≡ Enrol ∷ made

-- from the theory of a number, one seat made its calls, and nobody made others
pub record IsGenerated (seed size : ℕ) (board : BoardLists) : Type 0 where
  pub start : board.start ≡ generated_theory seed size
  pub legal : IsLegal board.start board.history
  pub calls : calls_of board.history ≡ generated_calls seed size

-- the last edition is the draft
pub record EndsPublished (s : State) : Type 0 where
  pub before : List TheoryLists
  pub last : s.editions ≡ before ++ s.draft ∷ []
