-- What a reader of lines has come to, and what one call does.
use Rattle.std.specs.Prelude.{◌≡◌, ◌≢◌, ℕ, ◌+◌, ◌<◌, ◌≤◌, List, [], ◌∷◌, ◌++◌, length, Option, None, Some}
use Rattle.std.specs.Io.KnownBytes.{prepend_known, IsAtEnd}
use Rattle.dl_io.specs.Outside.{Rose}
use Rattle.dl_lines.specs.Lines.{raw_lines, whole_lines, all_lines}
use Rattle.dl_lines.specs.declared.next.Ending.{Ending}
use Rattle.dl_lines.specs.declared.next.Ending.TheVariants.{End, Limit, Fault}
use Rattle.dl_lines.specs.declared.next.Next.{Next}
use Rattle.dl_lines.specs.declared.next.Next.TheVariants.{Line, Long, Over}
use Rattle.dl_lines.specs.declared.reader.TheConstants.{LONGEST_LINE, MOST_BYTES}

pub record Reading : Type 0 where
  -- the bytes that were read and are in no answer yet
  pub ahead : List ℕ
  -- the line, where the last answer was one
  pub line : List ℕ
  -- how many bytes were read in all
  pub count : ℕ
  -- how the lines ended, if they have
  pub ended : Option Ending

-- nothing was read
abbrev pub unread : Reading
unread = record { ahead = []; line = []; count = 0; ended = None }

-- Of these bytes these lines were answered, by what is still ahead and how the lines ended.
abbrev pub Serves : List ℕ → List (List ℕ) → List ℕ → Option Ending → Type 0
Serves bytes lines ahead None = raw_lines bytes ≡ lines ++ raw_lines ahead
Serves bytes lines ahead (Some End) = all_lines bytes ≡ lines
Serves bytes lines ahead (Some Limit) = whole_lines bytes ≡ lines
Serves bytes lines ahead (Some Fault) = whole_lines bytes ≡ lines

-- when lines may end so, by what the source has left and by how many bytes were read
abbrev pub MayEnd : Option (List ℕ) → ℕ → Option Ending → Type 0
MayEnd rest count None = Unit {0}
MayEnd rest count (Some End) = IsAtEnd rest × (count < MOST_BYTES)
MayEnd rest count (Some Limit) = count ≡ MOST_BYTES
MayEnd rest count (Some Fault) = Unit {0}

-- a line is the last one only at the end of the input
abbrev pub IsAtLine : Option Ending → Type 0
IsAtLine None = Unit {0}
IsAtLine (Some End) = Unit {0}
IsAtLine (Some Limit) = ⊥
IsAtLine (Some Fault) = ⊥

-- which answer these lines are, one or none
abbrev pub IsAnswer : List (List ℕ) → Reading → Next → Type 0
IsAnswer lines new Line = (lines ≡ new.line ∷ []) × (length new.line ≤ LONGEST_LINE) × IsAtLine new.ended
IsAnswer lines new Long = (line : List ℕ) × (lines ≡ line ∷ []) × (LONGEST_LINE < length line) × IsAtLine new.ended
IsAnswer lines new (Over ending) = (lines ≡ []) × (new.ended ≡ Some ending)

-- one call, where the lines had not ended: it reads some bytes and answers the next line, or none where they have ended by then
pub record IsNext (before now : Option (List ℕ)) (old new : Reading) (answer : Next) : Type 0 where
  -- the bytes that were read
  pub piece : List ℕ
  -- the line that is answered, or none
  pub lines : List (List ℕ)
  pub told : before ≡ prepend_known piece now
  pub count : new.count ≡ old.count + length piece
  pub within : new.count ≤ MOST_BYTES
  -- nothing is read while a whole line is ahead
  pub waits : whole_lines old.ahead ≢ [] → piece ≡ []
  pub serves : Serves (old.ahead ++ piece) lines new.ahead new.ended
  pub answers : IsAnswer lines new answer
  pub may_end : MayEnd now new.count new.ended

-- A failure is answered only where the count rose, and else the count is as it was.
abbrev pub HasFault : ℕ → ℕ → Next → Type 0
HasFault before now Line = now ≡ before
HasFault before now Long = now ≡ before
HasFault before now (Over End) = now ≡ before
HasFault before now (Over Limit) = now ≡ before
HasFault before now (Over Fault) = Rose before now

-- one call, where the lines had ended: it answers so again and reads nothing
pub record IsOver {S : Type 0} (before now : S) (old new : Reading) (ending : Ending) (answer : Next) : Type 0 where
  pub answers : answer ≡ Over ending
  pub reading : new ≡ old
  pub source : now ≡ before

-- All bytes that were taken of a source, which has this left, had these lines so far.
pub record Account (taken : List ℕ) (rest : Option (List ℕ)) (lines : List (List ℕ)) (reading : Reading) : Type 0 where
  pub count : reading.count ≡ length taken
  pub within : length taken ≤ MOST_BYTES
  pub serves : Serves taken lines reading.ahead reading.ended
  pub may_end : MayEnd rest reading.count reading.ended
