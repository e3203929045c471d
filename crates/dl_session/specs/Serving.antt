-- How the code serves a line. Only the code needs these.
use Rattle.std.specs.Prelude.{◌≡◌, ℕ, ◌<◌, List, length, Option, Some, None}
use Rattle.std.specs.Io.KnownBytes.{append_known}
use Rattle.dl_io.specs.Outside.{Rose}
use Rattle.dl_io.specs.Streams.{IsFront, IsKnownFront}
use Rattle.dl_calls.specs.declared.entry.Entry.{Entry}
use Rattle.dl_edition.specs.Editions.{EditionLists}
use Rattle.dl_edition.specs.Offices.{SeatLists}
use Rattle.dl_lines.specs.declared.next.Ending.{Ending}
use Rattle.dl_lines.specs.declared.next.Ending.TheVariants as ending
use Rattle.dl_lines.specs.declared.next.Next.{Next}
use Rattle.dl_lines.specs.declared.next.Next.TheVariants.{Line, Long, Over}
use Rattle.dl_lines.specs.declared.reader.TheConstants.{LONGEST_LINE}
use Rattle.dl_session.specs.declared.end.End.{End}
use Rattle.dl_session.specs.declared.end.End.TheVariants.{Done, ReadFault, WriteFault, Spent}
use Rattle.dl_session.specs.Answering.{Answers}
use Rattle.dl_session.specs.Ends.{IsQuit}
use Rattle.dl_session.specs.Replies.{Replies}

-- how a session ends where its lines ended so
abbrev pub end_of : Ending → End
end_of ending.End = Done
end_of ending.Limit = Spent
end_of ending.Fault = ReadFault

-- a text was written, or a front of it where that failed
abbrev pub Sends : Option (List ℕ) → Option (List ℕ) → List ℕ → Option End → Type 0
Sends sink sink_now text None = sink_now ≡ append_known sink text
Sends sink sink_now text (Some Done) = ⊥
Sends sink sink_now text (Some ReadFault) = ⊥
Sends sink sink_now text (Some WriteFault) = (front : List ℕ) × IsFront front text × (sink_now ≡ append_known sink front)
Sends sink sink_now text (Some Spent) = ⊥

-- All that was written is handed on. Where a write or a flush failed, a front of it is, and all that was handed on before.
abbrev pub HandsOnBy : Option (List ℕ) → Option (List ℕ) → Option (List ℕ) → Option End → Type 0
HandsOnBy handed handed_now written None = handed_now ≡ written
HandsOnBy handed handed_now written (Some Done) = handed_now ≡ written
HandsOnBy handed handed_now written (Some ReadFault) = handed_now ≡ written
HandsOnBy handed handed_now written (Some WriteFault) = IsKnownFront handed handed_now × IsKnownFront handed_now written
HandsOnBy handed handed_now written (Some Spent) = handed_now ≡ written

-- the count of the sink rose only at a failure
abbrev pub HasLineCause : ℕ → ℕ → Option End → Type 0
HasLineCause faults now None = now ≡ faults
HasLineCause faults now (Some Done) = now ≡ faults
HasLineCause faults now (Some ReadFault) = now ≡ faults
HasLineCause faults now (Some WriteFault) = Rose faults now
HasLineCause faults now (Some Spent) = now ≡ faults

-- a line was answered, or it is `quit`
abbrev pub ServesLine : SeatLists → SeatLists → List Entry → List EditionLists → List ℕ → Option (List ℕ) → Option (List ℕ) → Option End → Type 0
ServesLine old new before table line sink sink_now None =
    (bytes : List ℕ) × Answers (λ S used bytes. Replies S before line used bytes) old new before table bytes × (sink_now ≡ append_known sink bytes)
ServesLine old new before table line sink sink_now (Some Done) = IsQuit line × (new ≡ old) × (sink_now ≡ sink)
ServesLine old new before table line sink sink_now (Some ReadFault) = ⊥
ServesLine old new before table line sink sink_now (Some WriteFault) =
    (bytes : List ℕ) × (front : List ℕ) × Answers (λ S used bytes. Replies S before line used bytes) old new before table bytes
    × IsFront front bytes × (sink_now ≡ append_known sink front)
ServesLine old new before table line sink sink_now (Some Spent) = ⊥

-- the same of what a reader of lines answered
abbrev pub ServesNext : SeatLists → SeatLists → List Entry → List EditionLists → List ℕ → Next → Option (List ℕ) → Option (List ℕ) → ℕ → ℕ → Option End → Type 0
ServesNext old new before table line Line sink sink_now faults now result = ServesLine old new before table line sink sink_now result × HasLineCause faults now result
ServesNext old new before table line Long sink sink_now faults now result =
    ((long : List ℕ) → LONGEST_LINE < length long → ServesLine old new before table long sink sink_now result) × HasLineCause faults now result
ServesNext old new before table line (Over how) sink sink_now faults now result = (result ≡ Some (end_of how)) × (new ≡ old) × (sink_now ≡ sink) × (now ≡ faults)
