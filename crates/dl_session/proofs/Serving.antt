-- Replies in a longer history, and lines that are served.
use Rattle.std.proofs.Common.{◌≡◌, ℕ, ◌<◌, ◌≤◌, List, [], length, Some, None, Option, refl, sym, ap, inl, inr, append-nil, codes}
use Rattle.std.specs.Io.KnownBytes.{append_known}
use Rattle.dl_theory.specs.Lists.{TheoryLists}
use Rattle.dl_turn.specs.History.{StartsWith}
use Rattle.dl_calls.specs.declared.reply.Reply.{Reply}
use Rattle.dl_calls.specs.declared.reply.Reply.TheVariants as reply
use Rattle.dl_calls.specs.declared.entry.Entry.{Entry}
use Rattle.dl_edition.specs.Editions.{EditionLists}
use Rattle.dl_edition.specs.Offices.{SeatLists}
use Rattle.dl_lines.specs.declared.reader.TheConstants.{LONGEST_LINE}
use Rattle.dl_request.specs.Requests.{Asks, MayWantMemory}
use Rattle.dl_request.specs.declared.request.Request.{Request}
use Rattle.dl_request.specs.declared.request.Request.TheVariants.{Edit, Publish, Hold, Ask, Text, Conclusions}
use Rattle.dl_request.specs.declared.request.Asked.{Asked}
use Rattle.dl_request.specs.declared.request.Asked.TheVariants as asked
use Rattle.dl_session.specs.declared.end.End.{End}
use Rattle.dl_session.specs.declared.end.End.TheVariants.{Done, ReadFault, WriteFault, Spent}
use Rattle.dl_session.specs.declared.query.Query.{Query}
use Rattle.dl_session.specs.declared.query.Query.TheVariants as query
use Rattle.dl_session.specs.Answering.{Answers}
use Rattle.dl_session.specs.Replies.{Tells, TellsBy, Queries, Requests, IsReply, Replies, Answered}
use Rattle.dl_session.specs.Seats.{editions_of}
use Rattle.dl_session.specs.Serving.{Sends, ServesLine}
use Rattle.dl_session.specs.Table.{Keeps}
use Rattle.dl_session.specs.Text.{line_of, memory_line}
use Rattle.dl_session.proofs.Answering.{answers_by, answers_alone}
use Rattle.dl_session.proofs.Lists.{get_more}

module _ (S U : List TheoryLists) (begins : StartsWith U S) where
  tells_more : (n : ℕ) (x : Query) (bytes : List ℕ) → Tells S n x bytes → Tells U n x bytes
  tells_more n x bytes (inl (T, there, text)) = inl (T, get_more S U n T begins there, text)
  tells_more n x bytes (inr memory) = inr memory

  tells_by_more : (n : ℕ) (x : Query) (r : Reply) (bytes : List ℕ) → TellsBy S n x r bytes → TellsBy U n x r bytes
  tells_by_more n x (reply.Holding k) bytes (same, tells) = (same, tells_more n x bytes tells)
  tells_by_more n x (reply.Unpublished asked published) bytes h = h
  tells_by_more n x (reply.Enrolled k) bytes h = h
  tells_by_more n x reply.Edited bytes h = h
  tells_by_more n x (reply.EditRefused refusal) bytes h = h
  tells_by_more n x (reply.Edition k) bytes h = h

  queries_more : (before : List Entry) (n : ℕ) (x : Query) (used : List Entry) (bytes : List ℕ) → Queries S before n x used bytes → Queries U before n x used bytes
  queries_more before n x used bytes (inl memory) = inl memory
  queries_more before n x used bytes (inr (inl (held, none, tells))) = inr (inl (held, none, tells_more n x bytes tells))
  queries_more before n x used bytes (inr (inr (other, (e, one, called, tells)))) = inr (inr (other, (e, one, called, tells_by_more n x e.reply bytes tells)))

  requests_more : (before : List Entry) (r : Request) (used : List Entry) (bytes : List ℕ) → Requests S before r used bytes → Requests U before r used bytes
  requests_more before (Edit e) used bytes h = h
  requests_more before Publish used bytes h = h
  requests_more before (Hold n) used bytes h = h
  requests_more before (Ask n f q) used bytes h = queries_more before n (query.Ask f q) used bytes h
  requests_more before (Text n) used bytes h = queries_more before n query.Text used bytes h
  requests_more before (Conclusions n f) used bytes h = queries_more before n (query.Conclusions f) used bytes h

  reply_more : (before : List Entry) (x : Asked) (used : List Entry) (bytes : List ℕ) → IsReply S before x used bytes → IsReply U before x used bytes
  reply_more before asked.Nothing used bytes h = h
  reply_more before asked.Quit used bytes h = h
  reply_more before (asked.Request r) used bytes h = requests_more before r used bytes h
  reply_more before asked.Variables used bytes h = h
  reply_more before asked.Form used bytes h = h

  pub replies_more : (before : List Entry) (line : List ℕ) (used : List Entry) (bytes : List ℕ) → Replies S before line used bytes → Replies U before line used bytes
  replies_more before line used bytes (inl long) = inl long
  replies_more before line used bytes (inr (short, (x, asks, h))) = inr (short, (x, asks, reply_more before x used bytes h))

  -- What was answered by a history is answered by one that goes on.
  pub answered_more : (lines : List (List ℕ)) (entries : List Entry) (bytes : List ℕ) → Answered S lines entries bytes → Answered U lines entries bytes
  answered_more [] [] [] Answered.none = Answered.none
  answered_more lines entries bytes (Answered.more ls es bs line used reply answered replies) =
      Answered.more ls es bs line used reply (answered_more ls es bs answered) (replies_more es line used reply replies)

module _ (before : List Entry) (line : List ℕ) where
  abbrev Right : List TheoryLists → List Entry → List ℕ → Type 0
  Right S used bytes = Replies S before line used bytes

  -- a short line, by what it asks for
  pub replies_short : (x : Asked) (old new : SeatLists) (l : List EditionLists) (bytes : List ℕ) → length line ≤ LONGEST_LINE → Asks line x
      → Answers (λ S used bytes. IsReply S before x used bytes) old new before l bytes → Answers Right old new before l bytes
  replies_short x old new l bytes short asks answers =
      answers_by (λ S used bytes. IsReply S before x used bytes) Right old new before l bytes (λ S used h. inr (short, (x, asks, h))) answers

  pub replies_long : (v : SeatLists) (l : List EditionLists) → v.out ≡ None → LONGEST_LINE < length line → Keeps v before l
      → Answers Right v v before l (line_of (codes "refused long"))
  replies_long v l within long keeps = answers_alone Right v before l (line_of (codes "refused long")) within keeps (inl (long, refl, refl))

  -- a line that asks for nothing, or is refused
  pub replies_alone : (x : Asked) (v : SeatLists) (l : List EditionLists) (bytes : List ℕ) → v.out ≡ None → length line ≤ LONGEST_LINE → Asks line x → Keeps v before l
      → IsReply (editions_of v) before x [] bytes → Answers Right v v before l bytes
  replies_alone x v l bytes within short asks keeps right = answers_alone Right v before l bytes within keeps (inr (short, (x, asks, right)))

  -- a reply that was sent
  pub serves_by : (old new : SeatLists) (l : List EditionLists) (bytes : List ℕ) (sink sink_now : Option (List ℕ)) (result : Option End) → Answers Right old new before l bytes
      → Sends sink sink_now bytes result → ServesLine old new before l line sink sink_now result
  serves_by old new l bytes sink sink_now None answers sent = (bytes, answers, sent)
  serves_by old new l bytes sink sink_now (Some Done) answers sent = absurd sent
  serves_by old new l bytes sink sink_now (Some ReadFault) answers sent = absurd sent
  serves_by old new l bytes sink sink_now (Some WriteFault) answers (front, is_front, wrote) = (bytes, front, answers, is_front, wrote)
  serves_by old new l bytes sink sink_now (Some Spent) answers sent = absurd sent

-- where reading a line wanted memory, the line `memory` is its reply
pub memory_replies : (S : List TheoryLists) (before : List Entry) (x : Asked) → MayWantMemory x → IsReply S before x [] memory_line
memory_replies S before asked.Nothing h = absurd h
memory_replies S before asked.Quit h = absurd h
memory_replies S before asked.Variables h = absurd h
memory_replies S before asked.Form h = (refl, inr refl)
memory_replies S before (asked.Request (Edit e)) h = inr (refl, refl)
memory_replies S before (asked.Request Publish) h = absurd h
memory_replies S before (asked.Request (Hold n)) h = absurd h
memory_replies S before (asked.Request (Ask n f q)) h = inl (refl, refl)
memory_replies S before (asked.Request (Text n)) h = absurd h
memory_replies S before (asked.Request (Conclusions n f)) h = absurd h

pub append_nothing : (known : Option (List ℕ)) → known ≡ append_known known []
append_nothing None = refl
append_nothing (Some bytes) = sym (ap Some (append-nil bytes))
