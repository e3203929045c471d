-- What the parts of a call do. Only the code needs these.
use Rattle.std.specs.Prelude.{◌≡◌, ◌≢◌, ℕ, ◌+◌, ◌<◌, ◌≤◌, ◌==◌, ◌⊎◌, Bool, true, false, List, [], ◌∷◌, ◌++◌, length, take, drop, All, Option, None, Some, MatchOption, Result, Ok, Err}
use Rattle.std.specs.Io.KnownBytes.{prepend_known, IsAtEnd}
use Rattle.dl_io.specs.Outside.{Rose}
use Rattle.dl_lines.specs.Lines.{whole_lines}
use Rattle.dl_lines.specs.Reading.{Reading, MayEnd}
use Rattle.dl_lines.specs.declared.next.Ending.{Ending}
use Rattle.dl_lines.specs.declared.next.Ending.TheVariants.{End, Limit, Fault}
use Rattle.dl_lines.specs.declared.next.Next.{Next}
use Rattle.dl_lines.specs.declared.next.Next.TheVariants.{Line, Long, Over}
use Rattle.dl_lines.specs.declared.reader.TheConstants.{LONGEST_LINE, MOST_BYTES}

abbrev pub HasNoLf : List ℕ → Type 0
HasNoLf bytes = All (λ b. (b == 10) ≡ false) bytes

-- the first LF stands behind so many bytes
pub record IsCut (bytes : List ℕ) (len : ℕ) : Type 0 where
  pub front : HasNoLf (take len bytes)
  pub lf : bytes ≡ take len bytes ++ 10 ∷ drop (len + 1) bytes
  pub within : len < length bytes

abbrev pub IsFound : List ℕ → Option ℕ → Type 0
IsFound bytes found = MatchOption found (HasNoLf bytes) (λ len. IsCut bytes len)

-- one read, of at most so many bytes, behind those that are held
pub record ReadsBehind (before now : Option (List ℕ)) (room new : List ℕ) (held want count : ℕ) : Type 0 where
  pub piece : List ℕ
  pub told : before ≡ prepend_known piece now
  pub put : take (held + count) new ≡ take held room ++ piece
  pub size : length piece ≡ count
  pub most : count ≤ want
  pub at_end : count ≡ 0 → IsAtEnd now

-- some bytes were read behind those ahead
pub record Grows (before now : Option (List ℕ)) (old new : Reading) : Type 0 where
  pub piece : List ℕ
  pub told : before ≡ prepend_known piece now
  pub ahead : new.ahead ≡ old.ahead ++ piece
  pub count : new.count ≡ old.count + length piece
  pub within : new.count ≤ MOST_BYTES
  pub ended : new.ended ≡ old.ended

-- The count of faults rose at a failure, and else is as it was.
abbrev pub HasReadFault : ℕ → ℕ → Result Unit Ending → Type 0
HasReadFault before now (Ok x) = now ≡ before
HasReadFault before now (Err End) = now ≡ before
HasReadFault before now (Err Limit) = now ≡ before
HasReadFault before now (Err Fault) = Rose before now

-- where lines end, no more was read
abbrev pub EndsRightly : Option (List ℕ) → Option (List ℕ) → Reading → Reading → Result Unit Ending → Type 0
EndsRightly before now old new (Ok x) = old.count < new.count
EndsRightly before now old new (Err ending) = (before ≡ now) × (new.count ≡ old.count) × (new.ahead ≡ old.ahead) × MayEnd now new.count (Some ending)

-- The bytes of a line that are not kept: none, or more than a line may have.
abbrev pub IsDropped : List ℕ → Bool → Type 0
IsDropped dropped false = dropped ≡ []
IsDropped dropped true = LONGEST_LINE < length dropped

-- what was read so far of the line that a call looks for
pub record Took (before now : Option (List ℕ)) (old new : Reading) (long : Bool) : Type 0 where
  pub piece : List ℕ
  pub dropped : List ℕ
  pub told : before ≡ prepend_known piece now
  pub count : new.count ≡ old.count + length piece
  pub going : new.ended ≡ None
  pub waits : whole_lines old.ahead ≢ [] → piece ≡ []
  pub joined : old.ahead ++ piece ≡ dropped ++ new.ahead
  pub clear : HasNoLf dropped
  pub is_dropped : IsDropped dropped long

-- whether a line is too long by now, whose bytes are then forgotten
abbrev pub Forgets : Reading → Reading → Bool → Bool → Type 0
Forgets old new long false = (long ≡ false) × (new ≡ old) × (length old.ahead ≤ LONGEST_LINE)
Forgets old new long true = ((long ≡ true) ⊎ (LONGEST_LINE < length old.ahead)) × (new ≡ record old { ahead = [] })

-- a line of this length and its LF are gone from what is ahead
pub record CutsOff (old new : Reading) (len : ℕ) : Type 0 where
  pub line : new.line ≡ take len old.ahead
  pub ahead : new.ahead ≡ drop (len + 1) old.ahead
  pub count : new.count ≡ old.count
  pub within : new.count ≤ MOST_BYTES
  pub ended : new.ended ≡ old.ended

-- which answer a line is, by the length of what is ahead of it and by whether some of it was dropped
abbrev pub IsCutAnswer : ℕ → Bool → Next → Type 0
IsCutAnswer len long Line = (long ≡ false) × (len ≤ LONGEST_LINE)
IsCutAnswer len long Long = (long ≡ true) ⊎ (LONGEST_LINE < len)
IsCutAnswer len long (Over ending) = ⊥

-- which answer the end of the lines is: a line without LF is one only at the end of the input
abbrev pub IsLastAnswer : List ℕ → Ending → Bool → List ℕ → Next → Type 0
IsLastAnswer ahead ending long line Line = (ending ≡ End) × (long ≡ false) × (line ≡ ahead) × (0 < length ahead)
IsLastAnswer ahead ending long line Long = (ending ≡ End) × (long ≡ true)
IsLastAnswer ahead ending long line (Over other) = (other ≡ ending) × (ending ≡ End → (long ≡ false) × (ahead ≡ []))

-- the lines have ended so
pub record Ends (old new : Reading) (ending : Ending) (long : Bool) (answer : Next) : Type 0 where
  pub ahead : new.ahead ≡ []
  pub count : new.count ≡ old.count
  pub within : new.count ≤ MOST_BYTES
  pub ended : new.ended ≡ Some ending
  pub answers : IsLastAnswer old.ahead ending long new.line answer
