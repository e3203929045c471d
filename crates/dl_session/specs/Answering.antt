-- How the code comes to a reply. Only the code needs these.
use Rattle.std.specs.Prelude.{◌≡◌, ◌⊎◌, ℕ, List, [], ◌∷◌, ◌++◌, Option, Some, None, Result, Ok, Err, slice_get, codes}
use Rattle.dl_theory.specs.Lists.{TheoryLists}
use Rattle.dl_calls.specs.declared.call.Call.{Call}
use Rattle.dl_calls.specs.declared.reply.Reply.{Reply}
use Rattle.dl_calls.specs.declared.reply.Reply.TheVariants as reply
use Rattle.dl_calls.specs.declared.entry.Entry.{Entry}
use Rattle.dl_calls.specs.Text.{reply_text}
use Rattle.dl_edition.specs.Editions.{EditionLists}
use Rattle.dl_edition.specs.Offices.{SeatLists}
use Rattle.dl_session.specs.declared.calls.Outcome.{Outcome}
use Rattle.dl_session.specs.declared.calls.Outcome.TheVariants.{Kept, Unpublished, Memory}
use Rattle.dl_session.specs.declared.query.Query.{Query}
use Rattle.dl_session.specs.declared.ready.Refusal.{Refusal}
use Rattle.dl_session.specs.declared.ready.Refusal.TheVariants.{Form, Long, Variables}
use Rattle.dl_session.specs.declared.ready.Ready.{Ready}
use Rattle.dl_session.specs.declared.ready.Ready.TheVariants as ready
use Rattle.dl_session.specs.Text.{line_of, memory_line, answer_text, counted_theory, counted_conclusions}
use Rattle.dl_session.specs.Replies.{IsText}
use Rattle.dl_session.specs.Seats.{editions_of, Advances}
use Rattle.dl_session.specs.Table.{Keeps, Gains}

abbrev pub refusal_words : Refusal → List ℕ
refusal_words Form = codes "refused form"
refusal_words Long = codes "refused long"
refusal_words Variables = codes "refused variables"

-- the text of a reply that is ready
abbrev pub text_of : Ready → List ℕ
text_of (ready.Refused r) = line_of (refusal_words r)
text_of ready.Memory = memory_line
text_of (ready.Reply r) = line_of (reply_text r)
text_of (ready.Answer a) = answer_text a
text_of (ready.Text held) = counted_theory held.theory
text_of (ready.Conclusions f cs) = counted_conclusions f cs

-- the reply of a call, and none for want of memory
abbrev pub made_reply : {M : Type 0} → Result Reply M → Option Reply
made_reply (Ok r) = Some r
made_reply (Err memory) = None

-- the same of a hold
abbrev pub hold_reply : ℕ → Outcome → Option Reply
hold_reply n Kept = Some (reply.Holding n)
hold_reply n (Unpublished asked published) = Some (reply.Unpublished asked published)
hold_reply n Memory = None

-- the text of a reply, or that there was no memory for one
abbrev pub made_text : Option Reply → List ℕ
made_text (Some r) = line_of (reply_text r)
made_text None = memory_line

-- the entry of a call that has a reply, and none for want of memory
abbrev pub IsEntry : Call → Option Reply → List Entry → Type 0
IsEntry c None used = used ≡ []
IsEntry c (Some r) used = (e : Entry) × (used ≡ e ∷ []) × (e.call ≡ c) × (e.reply ≡ r)

-- a call was made
pub record Makes (old new : SeatLists) (c : Call) (r : Option Reply) : Type 0 where
  pub used : List Entry
  pub advances : Advances old new used
  pub entry : IsEntry c r used

abbrev pub HoldsNone : Reply → Type 0
HoldsNone r = (n : ℕ) → r ≡ reply.Holding n → ⊥

-- what came of the table by a hold of this edition
abbrev pub HoldsBy : SeatLists → ℕ → List EditionLists → List EditionLists → Outcome → Type 0
HoldsBy v n old new Kept = (T : TheoryLists) × Gains old new (record { number = n; theory = T }) × (slice_get (editions_of v) n ≡ Some T)
HoldsBy v n old new (Unpublished asked published) = new ≡ old
HoldsBy v n old new Memory = new ≡ old

-- what is told of a theory
abbrev pub TellsOf : TheoryLists → Query → List ℕ → Type 0
TellsOf T x bytes = IsText T x bytes ⊎ (bytes ≡ memory_line)

-- the same of a theory that was found
abbrev pub TellsFound : Option TheoryLists → Query → List ℕ → Type 0
TellsFound None x bytes = ⊥
TellsFound (Some T) x bytes = TellsOf T x bytes

-- The seat and the table after these entries came to a reply, which is right by R over the editions and the entries that it used.
pub record Answers (R : List TheoryLists → List Entry → List ℕ → Type 0) (old new : SeatLists) (before : List Entry) (table : List EditionLists) (bytes : List ℕ) : Type 0 where
  pub used : List Entry
  pub advances : Advances old new used
  pub keeps : Keeps new (before ++ used) table
  pub right : R (editions_of new) used bytes
