-- What a run of the program is.
use Rattle.std.specs.Prelude.{◌≡◌, ◌⊎◌, ℕ, ◌+◌, ◌<◌, ◌≤◌, length, Bool, List, [], ◌∷◌, ◌++◌, Option, None, Some, IsTrue, if◌then◌else◌}
use Rattle.dl_lit.specs.declared.literal.Family.{Family}
use Rattle.dl_io.specs.Outside.{Rose, at_name}
use Rattle.dl_io.specs.Streams.{IsFront}
use Rattle.dl_io.specs.House.{HouseState, IsShut, standard}
use Rattle.dl_theory.specs.Lists.{TheoryLists}
use Rattle.dl_print.specs.Text.{theory_text}
use Rattle.dl_summary.specs.declared.summary.Summary.{Summary}
use Rattle.dl_summary.specs.Summary.{IsSummary, summary_text}
use Rattle.dl_files.specs.declared.status.Status.{Status}
use Rattle.dl_files.specs.declared.status.Status.TheVariants as status
use Rattle.dl_files.specs.declared.refusal.Refusal.{Refusal}
use Rattle.dl_conclusions.specs.declared.conclusion.Conclusion.{Conclusion}
use Rattle.dl_conclusions.specs.Conclusions.{AreConclusions}
use Rattle.dl_replies.specs.declared.reply.Reply.TheVariants as reply
use Rattle.dl_files.specs.declared.refusal.Refusal.TheVariants as refusal
use Rattle.dl_replies.specs.declared.checked.Checked.{Checked}
use Rattle.dl_lines.specs.declared.reader.TheConstants.{MOST_BYTES}
use Rattle.dl_words.specs.Names.{output_names, is_among, GrowsBy}
use Rattle.dl_words.specs.Words.{Form, Conclude, Print, Check, Gen, Serve, form, file_of}
use Rattle.dl_files.specs.Theories.{limit, IsTheoryFile, IsRefusal, refused_line}
use Rattle.dl_replies.specs.Checks.{IsOnlyChecked}
use Rattle.dl_files.specs.Whole.{ReadsAtMost}
use Rattle.dl_conclusions.specs.Text.{conclusions_text}
use Rattle.dl_replies.specs.declared.reply.Reply.{Reply}
use Rattle.dl_replies.specs.Replies.{usage_line, reply_status, reply_text}
use Rattle.dl_serving.specs.Serve.{Serves}

-- what was handed on to standard output, and the status
pub record Outcome : Type 0 where
  pub status : Status
  pub text : List ℕ

abbrev pub outcome_of : Reply → Outcome
outcome_of reply = record { status = reply_status reply; text = reply_text reply }

-- What the program says, by the form of its words and what the files hold, and the names that it opens for that, in order.
-- A refusal may show one of several paths.
pub data Shows (holds : List ℕ → Option (List ℕ)) : Option Form → List (List ℕ) → Outcome → Type 0 where
  -- the words have no form: nothing is opened
  usage : Shows holds None [] (record { status = status.Usage; text = usage_line })
  -- the file of the theory is too large, or does not load: no other is opened
  refused : (asked : Form) (file bytes : List ℕ) (x : Refusal) → file_of asked ≡ Some file → holds file ≡ Some bytes → IsRefusal bytes x
      → Shows holds (Some asked) (file ∷ []) (record { status = status.Refused; text = refused_line x })
  -- the conclusions of the theory in a family
  concluded : (f : Family) (file bytes : List ℕ) (T : TheoryLists) (cs : List Conclusion) → holds file ≡ Some bytes
      → IsTheoryFile bytes T → AreConclusions T f cs
      → Shows holds (Some (Conclude f file)) (file ∷ []) (record { status = status.Done; text = conclusions_text f cs })
  -- the canonical text of the theory
  printed : (file bytes : List ℕ) (T : TheoryLists) → holds file ≡ Some bytes → IsTheoryFile bytes T
      → Shows holds (Some (Print file)) (file ∷ []) (record { status = status.Done; text = theory_text T })
  -- the theory loads, and the certificate is too large
  too_large : (theory cert bytes more : List ℕ) (T : TheoryLists) → holds theory ≡ Some bytes → IsTheoryFile bytes T → holds cert ≡ Some more
      → limit < length more → Shows holds (Some (Check theory cert)) (theory ∷ cert ∷ []) (outcome_of (reply.Refused refusal.Size))
  -- the theory loads, and the certificate is accepted or rejected, and nothing else can be said of it
  checked : (theory cert bytes more : List ℕ) (T : TheoryLists) (x : Checked) → holds theory ≡ Some bytes → IsTheoryFile bytes T → holds cert ≡ Some more
      → length more ≤ limit → IsOnlyChecked T more x
      → Shows holds (Some (Check theory cert)) (theory ∷ cert ∷ []) (outcome_of (reply.Checked x))
  -- what the calls of a number come to: nothing is opened
  generated : (seed size : ℕ) (s : Summary) → IsSummary seed size s
      → Shows holds (Some (Gen seed size)) [] (record { status = status.Done; text = summary_text s })

-- the files that the words name, in order
abbrev pub files_for : Option Form → List (List ℕ)
files_for None = []
files_for (Some (Conclude f file)) = file ∷ []
files_for (Some (Print file)) = file ∷ []
files_for (Some (Check theory cert)) = theory ∷ cert ∷ []
files_for (Some (Gen seed size)) = []
files_for (Some (Serve theory names)) = theory ∷ names

abbrev pub files_of : List (List ℕ) → List (List ℕ)
files_of words = files_for (form words)

-- where the replies of sessions go
abbrev pub session_outputs : Option Form → List (List ℕ)
session_outputs None = []
session_outputs (Some (Conclude f file)) = []
session_outputs (Some (Print file)) = []
session_outputs (Some (Check theory cert)) = []
session_outputs (Some (Gen seed size)) = []
session_outputs (Some (Serve theory names)) = output_names names

-- what is opened for output, in order
abbrev pub outputs_for : Option Form → List (List ℕ)
outputs_for asked = standard ∷ session_outputs asked

abbrev pub outputs_of : List (List ℕ) → List (List ℕ)
outputs_of words = outputs_for (form words)

-- how many bytes may be read under a name: of a session's input, and of another file
abbrev pub most_for : Option Form → List ℕ → ℕ
most_for None name = limit + 1
most_for (Some (Conclude f file)) name = limit + 1
most_for (Some (Print file)) name = limit + 1
most_for (Some (Check theory cert)) name = limit + 1
most_for (Some (Gen seed size)) name = limit + 1
most_for (Some (Serve theory names)) name = if is_among name names then MOST_BYTES else limit + 1

-- the statuses with which the program ends by itself after a certificate was opened
abbrev pub MayJudge : Status → Type 0
MayJudge ends = (ends ≡ status.Done) ⊎ ((ends ≡ status.Refused) ⊎ (ends ≡ status.Rejected))

-- those with which it ends by itself, by its words, and the names that it opens then
abbrev pub MayEnd : Option Form → List (List ℕ) → Status → Type 0
MayEnd None names ends = (names ≡ []) × (ends ≡ status.Usage)
MayEnd (Some (Conclude f file)) names ends = (names ≡ file ∷ []) × ((ends ≡ status.Done) ⊎ (ends ≡ status.Refused))
MayEnd (Some (Print file)) names ends = (names ≡ file ∷ []) × ((ends ≡ status.Done) ⊎ (ends ≡ status.Refused))
MayEnd (Some (Gen seed size)) names ends = (names ≡ []) × (ends ≡ status.Done)
MayEnd (Some (Serve theory sessions)) names ends = (names ≡ theory ∷ []) × (ends ≡ status.Refused)
MayEnd (Some (Check theory cert)) names ends = ((names ≡ theory ∷ []) × (ends ≡ status.Refused)) ⊎ ((names ≡ theory ∷ cert ∷ []) × MayJudge ends)

-- The words ask for this, and these names are opened for it.
abbrev pub IsOutcome : List (List ℕ) → (List ℕ → Option (List ℕ)) → List (List ℕ) → Outcome → Type 0
IsOutcome words holds names outcome = Shows holds (form words) names outcome

-- The reply is what the words ask for, and exactly the names that it takes were opened, in order.
pub record Replies (tells : Bool) (old new : HouseState) (asked : Option Form) (reply : Reply) : Type 0 where
  pub names : List (List ℕ)
  pub asked_in : new.asked_in ≡ old.asked_in ++ names
  pub may_end : MayEnd asked names (reply_status reply)
  pub shown : IsTrue tells → Shows old.holds asked names (outcome_of reply)

-- a front of a text that the words ask for
abbrev pub IsBegun : List (List ℕ) → (List ℕ → Option (List ℕ)) → List ℕ → Type 0
IsBegun words holds front =
    (front ≡ []) ⊎ ((names : List (List ℕ)) × (outcome : Outcome) × IsOutcome words holds names outcome × IsFront front outcome.text)

-- The program said what its words ask for, and all of it was handed on to standard output. Nothing failed, and no name was opened
-- but those that the answer takes.
pub record Says (tells : Bool) (old new : HouseState) (words : List (List ℕ)) (ends : Status) : Type 0 where
  pub no_fault : new.faults ≡ old.faults
  pub names : List (List ℕ)
  pub asked_in : new.asked_in ≡ old.asked_in ++ names
  pub may_end : MayEnd (form words) names ends
  pub shown : IsTrue tells → (outcome : Outcome) × IsOutcome words old.holds names outcome × (ends ≡ outcome.status)
      × (new.wrote ≡ at_name old.wrote standard (Some outcome.text))

-- The program stopped before: standard output, which is opened first, was not opened, and then no other name was asked for; or a front
-- of what the words ask for was handed on to it, and nothing else.
abbrev pub Stops : Bool → HouseState → HouseState → List (List ℕ) → Type 0
Stops tells old new words =
    IsTrue tells
    → ((new.wrote ≡ old.wrote) × (new.asked_in ≡ old.asked_in))
    ⊎ ((front : List ℕ) × IsBegun words old.holds front × (new.wrote ≡ at_name old.wrote standard (Some front)))

-- No sessions are asked for, or the file of their theory is refused.
abbrev pub IsUnserved : Bool → (List ℕ → Option (List ℕ)) → Option Form → Type 0
IsUnserved tells holds None = Unit {0}
IsUnserved tells holds (Some (Conclude f file)) = Unit {0}
IsUnserved tells holds (Some (Print file)) = Unit {0}
IsUnserved tells holds (Some (Check theory cert)) = Unit {0}
IsUnserved tells holds (Some (Gen seed size)) = Unit {0}
IsUnserved tells holds (Some (Serve theory names)) = IsTrue tells → (bytes : List ℕ) × (x : Refusal) × (holds theory ≡ Some bytes) × IsRefusal bytes x

-- The outside failed.
pub record Fails (tells : Bool) (old new : HouseState) (words : List (List ℕ)) (ends : Status) : Type 0 where
  pub fault : ends ≡ status.Fault
  pub rose : Rose old.faults new.faults
  pub front : Stops tells old new words
  pub unserved : IsUnserved tells old.holds (form words)

-- There was no memory. Nothing failed.
pub record Lacks (tells : Bool) (old new : HouseState) (words : List (List ℕ)) (ends : Status) : Type 0 where
  pub memory : ends ≡ status.Memory
  pub no_fault : new.faults ≡ old.faults
  pub front : Stops tells old new words
  pub unserved : IsUnserved tells old.holds (form words)

-- Sessions were asked for, and were served or did not begin.
pub record ServesNames (tells : Bool) (old new : HouseState) (words : List (List ℕ)) (before : List (List ℕ)) (ends : Status) : Type 0 where
  pub theory : List ℕ
  pub names : List (List ℕ)
  pub asks : form words ≡ Some (Serve theory names)
  pub serves : Serves tells old new theory names (before ++ output_names names) ends

-- What came of the words, where these names were opened for output before those of sessions.
abbrev pub AnswersBehind : List (List ℕ) → Bool → HouseState → HouseState → List (List ℕ) → Status → Type 0
AnswersBehind before tells old new words ends =
    Says tells old new words ends ⊎ (Fails tells old new words ends ⊎ (Lacks tells old new words ends ⊎ ServesNames tells old new words before ends))

-- The program said what its words ask for, the outside failed, there was no memory, or sessions were asked for.
abbrev pub Answers : Bool → HouseState → HouseState → List (List ℕ) → Status → Type 0
Answers tells old new words ends = AnswersBehind (standard ∷ []) tells old new words ends

-- a run of the program
pub record Runs (tells : Bool) (old new : HouseState) (words : List (List ℕ)) (ends : Status) : Type 0 where
  pub shut : IsShut new
  pub asked_in : GrowsBy old.asked_in new.asked_in (files_of words)
  pub asked_out : GrowsBy old.asked_out new.asked_out (outputs_of words)
  pub within : ReadsAtMost (most_for (form words)) old new
  pub answer : Answers tells old new words ends

-- The words ask whether these bytes are a certificate of this theory.
pub record AsksAbout (house : HouseState) (words : List (List ℕ)) (T : TheoryLists) (certificate : List ℕ) : Type 0 where
  pub theory : List ℕ
  pub cert : List ℕ
  pub bytes : List ℕ
  pub asks : form words ≡ Some (Check theory cert)
  pub held : house.holds theory ≡ Some bytes
  pub loads : IsTheoryFile bytes T
  pub kept : house.holds cert ≡ Some certificate
