-- What a call on a board answers and adds.
use Rattle.std.specs.Prelude.{◌≡◌, ℕ, [], ◌∷◌, ◌++◌, Some, length, slice_get}
use Rattle.dl_calls.specs.declared.call.Call.{Call}
use Rattle.dl_calls.specs.declared.call.Call.TheVariants as call
use Rattle.dl_calls.specs.declared.reply.Reply.{Reply}
use Rattle.dl_calls.specs.declared.reply.Reply.TheVariants as reply
use Rattle.dl_calls.specs.Reasoner.{State, held}
use Rattle.dl_calls.specs.Histories.{state_after}
use Rattle.dl_board.specs.Boards.{BoardLists}
use Rattle.dl_board.specs.declared.turned.Turned.{Turned}
use Rattle.dl_board.specs.declared.turned.Turned.TheVariants.{Edited, EditRefused, Edition, Holding, Unpublished}

-- the reply that the history has for an answer
abbrev pub reply_of : Turned → Reply
reply_of Edited = reply.Edited
reply_of (EditRefused x) = reply.EditRefused x
reply_of (Edition n) = reply.Edition n
reply_of (Holding h) = reply.Holding h.number
reply_of (Unpublished asked published) = reply.Unpublished asked published

-- an edition that is handed out is the state's edition with its number
abbrev pub HandsOut : State → Turned → Type 0
HandsOut s (Holding h) = slice_get s.editions h.number ≡ Some h.theory
HandsOut s _ = Unit {0}

abbrev pub IsEdit : Call → Type 0
IsEdit (call.Edit e) = Unit {0}
IsEdit _ = ⊥

-- the history has one entry more, of the seat's call and of the answer
pub record IsTurn (old new : BoardLists) (seat : ℕ) (asked : Call) (turned : Turned) : Type 0 where
  pub start : new.start ≡ old.start
  pub history : new.history ≡ old.history ++ record { seat = seat; call = asked; reply = reply_of turned } ∷ []
  pub enrolled : new.enrolled ≡ old.enrolled
  pub hands_out : HandsOut (state_after new.start new.history) turned

-- what a hold of an edition answers in a state
pub record IsHeldAnswer (s : State) (number : ℕ) (turned : Turned) : Type 0 where
  pub reply : reply_of turned ≡ held number (length s.editions)
  pub hands_out : HandsOut s turned
