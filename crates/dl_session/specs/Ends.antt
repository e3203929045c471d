-- How a session ends, and what it has done by then.
use Rattle.std.specs.Prelude.{◌≡◌, ◌⊎◌, ℕ, ◌<◌, ◌≤◌, List, [], ◌∷◌, ◌++◌, length, Option}
use Rattle.std.specs.Io.KnownBytes.{prepend_known, append_known, IsAtEnd}
use Rattle.dl_io.specs.Outside.{Rose}
use Rattle.dl_io.specs.Streams.{IsFront}
use Rattle.dl_theory.specs.Lists.{TheoryLists}
use Rattle.dl_calls.specs.declared.entry.Entry.{Entry}
use Rattle.dl_turn.specs.History.{StartsWith}
use Rattle.dl_edition.specs.Offices.{SeatLists}
use Rattle.dl_lines.specs.Lines.{whole_lines, all_lines}
use Rattle.dl_lines.specs.declared.reader.TheConstants.{LONGEST_LINE, MOST_BYTES}
use Rattle.dl_request.specs.Requests.{Asks}
use Rattle.dl_request.specs.declared.request.Asked.TheVariants as asked
use Rattle.dl_session.specs.declared.end.End.{End}
use Rattle.dl_session.specs.declared.end.End.TheVariants.{Done, ReadFault, WriteFault, Spent}
use Rattle.dl_session.specs.Replies.{Replies, Answered}
use Rattle.dl_session.specs.Seats.{editions_of, Advances}

-- the end of the input was met, before the limit of bytes
abbrev pub MeetsEnd : List ℕ → Option (List ℕ) → Type 0
MeetsEnd taken rest = IsAtEnd rest × (length taken < MOST_BYTES)

-- the first lines of what was taken; the last of them has its LF, or the input ends with it
abbrev pub AreFirstLines : List ℕ → Option (List ℕ) → List (List ℕ) → Type 0
AreFirstLines taken rest lines = StartsWith (whole_lines taken) lines ⊎ ((lines ≡ all_lines taken) × MeetsEnd taken rest)

abbrev pub IsQuit : List ℕ → Type 0
IsQuit line = (length line ≤ LONGEST_LINE) × Asks line asked.Quit

-- By the editions, the seat's entries, what was taken of the input and what it has left, and what was written, or handed on:
module _ (S : List TheoryLists) (entries : List Entry) (taken : List ℕ) (rest : Option (List ℕ)) (written : List ℕ) where
  -- the first `quit` was met, and all lines before it were answered
  pub record Quits : Type 0 where
    pub lines : List (List ℕ)
    pub quit : List ℕ
    pub first : AreFirstLines taken rest (lines ++ quit ∷ [])
    pub is_quit : IsQuit quit
    pub answered : Answered S lines entries written

  -- some lines were answered, and of the reply to one more a front was written
  pub record IsCutOff : Type 0 where
    pub lines : List (List ℕ)
    pub line : List ℕ
    pub first : AreFirstLines taken rest (lines ++ line ∷ [])
    pub before : List Entry
    pub used : List Entry
    pub order : entries ≡ before ++ used
    pub whole : List ℕ
    pub answered : Answered S lines before whole
    pub reply : List ℕ
    pub replies : Replies S before line used reply
    pub front : List ℕ
    pub is_front : IsFront front reply
    pub bytes : written ≡ whole ++ front

  -- what was done by an end; none of the lines that were answered is `quit`
  abbrev pub IsEnd : End → Type 0
  IsEnd Done = Quits ⊎ (MeetsEnd taken rest × Answered S (all_lines taken) entries written)
  IsEnd ReadFault = Answered S (whole_lines taken) entries written
  IsEnd WriteFault = IsCutOff
  IsEnd Spent = (length taken ≡ MOST_BYTES) × Answered S (whole_lines taken) entries written

-- by the counts of faults of the source and of the sink: a count rose only by an end of its own
abbrev pub HasCause : ℕ → ℕ → ℕ → ℕ → End → Type 0
HasCause read read_now written written_now Done = (read_now ≡ read) × (written_now ≡ written)
HasCause read read_now written written_now ReadFault = Rose read read_now × (written_now ≡ written)
HasCause read read_now written written_now WriteFault = (read_now ≡ read) × Rose written written_now
HasCause read read_now written written_now Spent = (read_now ≡ read) × (written_now ≡ written)

-- A session: what it took of its source, what it wrote, the further entries of its seat, and its end over these. The two states of the
-- sink are what was written before and after; what was handed on takes their place where it is said of that.
pub record IsSession (source source_now sink sink_now : Option (List ℕ)) (seat seat_now : SeatLists) (end : End) : Type 0 where
  pub taken : List ℕ
  pub written : List ℕ
  pub entries : List Entry
  pub took : source ≡ prepend_known taken source_now
  pub within : length taken ≤ MOST_BYTES
  pub wrote : sink_now ≡ append_known sink written
  pub advances : Advances seat seat_now entries
  pub ends : IsEnd (editions_of seat_now) entries taken source_now written end
