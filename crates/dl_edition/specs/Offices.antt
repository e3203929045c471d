-- What a call of an office tells the holder of a seat.
use Rattle.std.specs.Prelude.{◌≡◌, ℕ, List, [], ◌∷◌, ◌++◌, Option, Some, None, IsSome, Result, Ok, Err, slice_get}
use Rattle.dl_turn.specs.History.{StartsWith}
use Rattle.dl_turn.specs.Views.{SeatView}
use Rattle.dl_theory.specs.Lists.{TheoryLists}
use Rattle.dl_theory.specs.declared.edit.EditStop.{EditStop}
use Rattle.dl_theory.specs.declared.edit.EditStop.TheVariants.{Refused, Memory}
use Rattle.dl_calls.specs.declared.call.Call.{Call}
use Rattle.dl_calls.specs.declared.reply.Reply.{Reply}
use Rattle.dl_calls.specs.declared.reply.Reply.TheVariants as reply
use Rattle.dl_calls.specs.declared.entry.Entry.{Entry}
use Rattle.dl_calls.specs.Histories.{IsLegal, state_after}
use Rattle.dl_edition.specs.declared.hold_answer.HoldAnswer.{HoldAnswer}
use Rattle.dl_edition.specs.declared.hold_answer.HoldAnswer.TheVariants.{Holding, Unpublished}

-- a seat at a board whose history has entries
abbrev pub SeatLists : Type 0
SeatLists = SeatView Entry TheoryLists

-- the seat has a number, and no board is out with it
pub record MayCall (v : SeatLists) : Type 0 where
  pub numbered : IsSome v.number
  pub within : v.out ≡ None

-- Place, start and joined seats are as before, no board is out with the seat, and what it has seen is legal.
pub record Stays (old new : SeatLists) : Type 0 where
  pub place : new.place ≡ old.place
  pub start : new.start ≡ old.start
  pub olds : new.olds ≡ old.olds
  pub within : new.out ≡ None
  pub legal : IsLegal new.start new.seen

-- what the seat has seen begins with what it had seen and ends with its call, which is one more of its own
pub record HasCalled (old new : SeatLists) (asked : Call) (answer : Reply) : Type 0 where
  pub seat : ℕ
  pub number : new.number ≡ Some seat
  pub between : List Entry
  pub seen : new.seen ≡ (old.seen ++ between) ++ record { seat = seat; call = asked; reply = answer } ∷ []
  pub mine : new.mine ≡ old.mine ++ record { seat = seat; call = asked; reply = answer } ∷ []

-- the seat made no call, and has seen no less
pub record HasWaited (old new : SeatLists) : Type 0 where
  pub number : new.number ≡ old.number
  pub mine : new.mine ≡ old.mine
  pub seen : StartsWith new.seen old.seen

-- a call was made where it has a reply, and none at want of memory
abbrev pub Tells : SeatLists → SeatLists → Call → Option Reply → Type 0
Tells old new asked (Some answer) = HasCalled old new asked answer
Tells old new asked None = HasWaited old new

-- what each call of an office ensures
pub record IsCall (old new : SeatLists) (asked : Call) (answer : Option Reply) : Type 0 where
  pub stays : Stays old new
  pub number : new.number ≡ old.number
  pub tells : Tells old new asked answer

-- the replies of the answers, and none for want of memory

abbrev pub enrol_reply : {M : Type 0} → Result ℕ M → Option Reply
enrol_reply (Ok number) = Some (reply.Enrolled number)
enrol_reply (Err memory) = None

abbrev pub edit_reply : Result (Unit {0}) EditStop → Option Reply
edit_reply (Ok done) = Some reply.Edited
edit_reply (Err (Refused x)) = Some (reply.EditRefused x)
edit_reply (Err Memory) = None

abbrev pub publish_reply : {M : Type 0} → Result ℕ M → Option Reply
publish_reply (Ok number) = Some (reply.Edition number)
publish_reply (Err memory) = None

abbrev pub hold_reply : {M : Type 0} → Result HoldAnswer M → Option Reply
hold_reply (Ok (Holding held)) = Some (reply.Holding held.number)
hold_reply (Ok (Unpublished asked published)) = Some (reply.Unpublished asked published)
hold_reply (Err memory) = None

-- an edition that is handed out is the one that was asked for, of those that the seat has seen
abbrev pub HandsOut : {M : Type 0} → SeatLists → ℕ → Result HoldAnswer M → Type 0
HandsOut v number (Ok (Holding held)) = (held.number ≡ number) × (slice_get (state_after v.start v.seen).editions number ≡ Some held.theory)
HandsOut v number (Ok (Unpublished asked published)) = Unit {0}
HandsOut v number (Err memory) = Unit {0}
