-- What a session replies to its lines, by the editions of a history and by the entries of the session's seat.
use Rattle.std.specs.Prelude.{◌≡◌, ◌⊎◌, ℕ, ◌<◌, ◌≤◌, List, [], ◌∷◌, ◌++◌, length, Any, Some, slice_get, codes}
use Rattle.dl_theory.specs.Lists.{TheoryLists}
use Rattle.dl_theory.specs.Verdicts.{Fits}
use Rattle.dl_theory.specs.declared.answer.Answer.{Answer}
use Rattle.dl_conclusions.specs.Conclusions.{AreConclusions}
use Rattle.dl_conclusions.specs.declared.conclusion.Conclusion.{Conclusion}
use Rattle.dl_calls.specs.declared.call.Call.{Call}
use Rattle.dl_calls.specs.declared.call.Call.TheVariants as call
use Rattle.dl_calls.specs.declared.reply.Reply.{Reply}
use Rattle.dl_calls.specs.declared.reply.Reply.TheVariants as reply
use Rattle.dl_calls.specs.declared.entry.Entry.{Entry}
use Rattle.dl_calls.specs.Text.{reply_text}
use Rattle.dl_lines.specs.declared.reader.TheConstants.{LONGEST_LINE}
use Rattle.dl_request.specs.Requests.{Asks}
use Rattle.dl_request.specs.declared.request.Request.{Request}
use Rattle.dl_request.specs.declared.request.Request.TheVariants.{Edit, Publish, Hold, Ask, Text, Conclusions}
use Rattle.dl_request.specs.declared.request.Asked.{Asked}
use Rattle.dl_request.specs.declared.request.Asked.TheVariants as asked
use Rattle.dl_session.specs.declared.query.Query.{Query}
use Rattle.dl_session.specs.declared.query.Query.TheVariants as query
use Rattle.dl_session.specs.Text.{line_of, memory_line, answer_text, counted_theory, counted_conclusions}

-- An edition is held from the first entry on that answers a hold of it.
abbrev pub IsHeld : List Entry → ℕ → Type 0
IsHeld entries n = Any (λ e. e.reply ≡ reply.Holding n) entries

-- the texts that answer a question about a theory
abbrev pub IsText : TheoryLists → Query → List ℕ → Type 0
IsText T (query.Ask f q) bytes = (answer : Answer) × Fits T f q answer × (bytes ≡ answer_text answer)
IsText T query.Text bytes = bytes ≡ counted_theory T
IsText T (query.Conclusions f) bytes = (cs : List Conclusion) × AreConclusions T f cs × (bytes ≡ counted_conclusions f cs)

-- the line `memory`, and no entry
abbrev pub WantsMemory : List Entry → List ℕ → Type 0
WantsMemory used bytes = (used ≡ []) × (bytes ≡ memory_line)

-- the reply to a call, and its entry
abbrev pub IsMade : Call → List Entry → List ℕ → Type 0
IsMade c used bytes = (e : Entry) × (used ≡ e ∷ []) × (e.call ≡ c) × (bytes ≡ line_of (reply_text e.reply))

abbrev pub Calls : Call → List Entry → List ℕ → Type 0
Calls c used bytes = IsMade c used bytes ⊎ WantsMemory used bytes

-- what is told of an edition: a text of its theory, or the line `memory`
abbrev pub Tells : List TheoryLists → ℕ → Query → List ℕ → Type 0
Tells S n x bytes = ((T : TheoryLists) × (slice_get S n ≡ Some T) × IsText T x bytes) ⊎ (bytes ≡ memory_line)

-- a question about an edition that is held makes no entry
abbrev pub AsksHeld : List TheoryLists → List Entry → ℕ → Query → List Entry → List ℕ → Type 0
AsksHeld S before n x used bytes = IsHeld before n × (used ≡ []) × Tells S n x bytes

-- by the reply to the hold that a question makes
abbrev pub TellsBy : List TheoryLists → ℕ → Query → Reply → List ℕ → Type 0
TellsBy S n x (reply.Holding k) bytes = (k ≡ n) × Tells S n x bytes
TellsBy S n x (reply.Unpublished asked published) bytes = bytes ≡ line_of (reply_text (reply.Unpublished asked published))
TellsBy S n x (reply.Enrolled k) bytes = ⊥
TellsBy S n x reply.Edited bytes = ⊥
TellsBy S n x (reply.EditRefused refusal) bytes = ⊥
TellsBy S n x (reply.Edition k) bytes = ⊥

-- a question about another edition first holds it
abbrev pub AsksOther : List TheoryLists → List Entry → ℕ → Query → List Entry → List ℕ → Type 0
AsksOther S before n x used bytes =
    (IsHeld before n → ⊥) × ((e : Entry) × (used ≡ e ∷ []) × (e.call ≡ call.Hold n) × TellsBy S n x e.reply bytes)

abbrev pub Queries : List TheoryLists → List Entry → ℕ → Query → List Entry → List ℕ → Type 0
Queries S before n x used bytes = WantsMemory used bytes ⊎ (AsksHeld S before n x used bytes ⊎ AsksOther S before n x used bytes)

-- which entries of the seat, one or none, a request uses after those before it, and its reply
abbrev pub Requests : List TheoryLists → List Entry → Request → List Entry → List ℕ → Type 0
Requests S before (Edit e) used bytes = Calls (call.Edit e) used bytes
Requests S before Publish used bytes = Calls call.Publish used bytes
Requests S before (Hold n) used bytes = Calls (call.Hold n) used bytes
Requests S before (Ask n f q) used bytes = Queries S before n (query.Ask f q) used bytes
Requests S before (Text n) used bytes = Queries S before n query.Text used bytes
Requests S before (Conclusions n f) used bytes = Queries S before n (query.Conclusions f) used bytes

-- the same by what a line asks for; `quit` has no reply
abbrev pub IsReply : List TheoryLists → List Entry → Asked → List Entry → List ℕ → Type 0
IsReply S before asked.Nothing used bytes = (used ≡ []) × (bytes ≡ [])
IsReply S before asked.Quit used bytes = ⊥
IsReply S before (asked.Request r) used bytes = Requests S before r used bytes
IsReply S before asked.Variables used bytes = (used ≡ []) × (bytes ≡ line_of (codes "refused variables"))
IsReply S before asked.Form used bytes = (used ≡ []) × ((bytes ≡ line_of (codes "refused form")) ⊎ (bytes ≡ memory_line))

-- a line that is too long asks for nothing else
abbrev pub IsLongReply : List ℕ → List Entry → List ℕ → Type 0
IsLongReply line used bytes = (LONGEST_LINE < length line) × (used ≡ []) × (bytes ≡ line_of (codes "refused long"))

abbrev pub IsShortReply : List TheoryLists → List Entry → List ℕ → List Entry → List ℕ → Type 0
IsShortReply S before line used bytes = (length line ≤ LONGEST_LINE) × ((x : Asked) × Asks line x × IsReply S before x used bytes)

-- the reply to a line, after these entries of the seat
abbrev pub Replies : List TheoryLists → List Entry → List ℕ → List Entry → List ℕ → Type 0
Replies S before line used bytes = IsLongReply line used bytes ⊎ IsShortReply S before line used bytes

-- The lines, none of which is `quit`, were answered by these bytes, and used these entries of the seat.
pub data Answered (S : List TheoryLists) : List (List ℕ) → List Entry → List ℕ → Type 0 where
  none : Answered S [] [] []
  more : (lines : List (List ℕ)) (entries : List Entry) (bytes line : List ℕ) (used : List Entry) (reply : List ℕ)
      → Answered S lines entries bytes → Replies S entries line used reply
      → Answered S (lines ++ line ∷ []) (entries ++ used) (bytes ++ reply)
