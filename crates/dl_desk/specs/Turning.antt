-- What a turn on a board tells the desk.
use Rattle.std.specs.Prelude.{◌≡◌, Option, Some, None, Result, Ok, Err}
use Rattle.dl_calls.specs.declared.call.Call.{Call}
use Rattle.dl_calls.specs.declared.call.Call.TheVariants.{Edit, Publish, Hold}
use Rattle.dl_calls.specs.declared.reply.Reply.{Reply}
use Rattle.dl_calls.specs.declared.reply.Reply.TheVariants.{Edited, EditRefused, Edition, Holding, Unpublished}
use Rattle.dl_board.specs.declared.turned.Turned.{Turned}
use Rattle.dl_board.specs.Turns.{reply_of}

-- the reply of a turn, and none for want of memory
abbrev pub turned_reply : {M : Type 0} → Result Turned M → Option Reply
turned_reply (Ok turned) = Some (reply_of turned)
turned_reply (Err memory) = None

-- a call has replies of its own kinds, and a hold that finds an edition finds the one that was asked for
abbrev pub Suits : Call → Reply → Type 0
Suits (Edit e) Edited = Unit {0}
Suits (Edit e) (EditRefused x) = Unit {0}
Suits Publish (Edition n) = Unit {0}
Suits (Hold n) (Holding k) = k ≡ n
Suits (Hold n) (Unpublished asked published) = Unit {0}
Suits _ _ = ⊥
