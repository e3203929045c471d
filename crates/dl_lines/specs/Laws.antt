-- What holds of all lines and of all calls.
use Rattle.std.specs.Prelude.{◌≡◌, ℕ, ◌+◌, ◌-◌, ◌*◌, ◌<◌, ◌==◌, false, List, [], ◌++◌, length, All, Option, None, Some}
use Rattle.std.specs.List.{join_with_byte}
use Rattle.dl_lines.specs.Lines.{raw_lines, whole_lines, all_lines}
use Rattle.dl_lines.specs.Reading.{Reading, unread, IsNext, Account}
use Rattle.dl_lines.specs.declared.next.Ending.{Ending}
use Rattle.dl_lines.specs.declared.next.Next.{Next}
use Rattle.dl_lines.specs.declared.reader.TheConstants.{MOST_BYTES}

-- There is at least one raw line, none has an LF, and with an LF between each two they are the bytes.
abbrev pub LinesAreTheBytes : Type 0
LinesAreTheBytes = (bytes : List ℕ) → (0 < length (raw_lines bytes)) × All (λ line. All (λ b. (b == 10) ≡ false) line) (raw_lines bytes) × (join_with_byte 10 (raw_lines bytes) ≡ bytes)

-- Where nothing was read, nothing was answered.
abbrev pub AccountsBegin : Type 0
AccountsBegin = (rest : Option (List ℕ)) → Account [] rest [] unread

-- One more call adds what it read and what it answered.
abbrev pub AccountsGoOn : Type 0
AccountsGoOn = (before now : Option (List ℕ)) (old new : Reading) (answer : Next) (taken : List ℕ) (lines : List (List ℕ))
    → Account taken before lines old → old.ended ≡ None → (next : IsNext before now old new answer) → Account (taken ++ next.piece) now (lines ++ next.lines) new

-- Whatever bytes follow, the lines so far come first among the lines of all.
abbrev pub LinesComeFirst : Type 0
LinesComeFirst = (taken more : List ℕ) (rest : Option (List ℕ)) (lines : List (List ℕ)) (reading : Reading) → Account taken rest lines reading → reading.ended ≡ None
    → (all_lines (taken ++ more) ≡ lines ++ all_lines (reading.ahead ++ more)) × (whole_lines (taken ++ more) ≡ lines ++ whole_lines (reading.ahead ++ more))

abbrev pub unless_ended : Option Ending → ℕ → ℕ
unless_ended None n = n
unless_ended (Some ending) n = 0

-- how many calls at most come before one that says again how the lines have ended
abbrev pub calls_left : Reading → ℕ
calls_left reading = unless_ended reading.ended (1 + length reading.ahead + 2 * (MOST_BYTES - reading.count))

-- Each of these calls leaves fewer.
abbrev pub CallsRunOut : Type 0
CallsRunOut = (before now : Option (List ℕ)) (old new : Reading) (answer : Next) → old.ended ≡ None → IsNext before now old new answer → calls_left new < calls_left old
