-- What calls come to that are made once more on a theory alone, without a desk.
use Rattle.std.specs.Prelude.{◌≡◌, ◌⊎◌, ◌+◌, List, count_by}
use Rattle.dl_theory.specs.declared.edit.EditRefusal.{EditRefusal}
use Rattle.dl_theory.specs.Lists.{TheoryLists}
use Rattle.dl_theory.specs.Edits.{IsAccepted, IsRefused, after_edit}
use Rattle.dl_calls.specs.declared.call.Call.{Call}
use Rattle.dl_calls.specs.declared.call.Call.TheVariants.{Edit}
use Rattle.dl_calls.specs.declared.entry.Entry.{Entry}
use Rattle.dl_calls.specs.Histories.{IsLegal, state_after}
use Rattle.dl_summary.specs.declared.replay.Replay.{Replay}
use Rattle.dl_summary.specs.Summary.{is_edited, is_edit_refused, calls_of, replies_of}

-- an edit is made or refused, and counted
abbrev pub Takes : Replay → Call → Replay → Type 0
Takes old (Edit e) new =
    (IsAccepted old.draft e × (new ≡ record { accepted = old.accepted + 1; refused = old.refused; draft = after_edit old.draft e }))
    ⊎ ((x : EditRefusal) × IsRefused old.draft e x × (new ≡ record { accepted = old.accepted; refused = old.refused + 1; draft = old.draft }))
Takes old _ new = new ≡ old

-- the counts and the draft of a history from a theory
pub record IsReplay (T : TheoryLists) (history : List Entry) (r : Replay) : Type 0 where
  pub accepted : r.accepted ≡ count_by is_edited (replies_of history)
  pub refused : r.refused ≡ count_by is_edit_refused (replies_of history)
  pub draft : r.draft ≡ (state_after T history).draft

-- those of every history that a reasoner of the theory can have of these calls
abbrev pub Replays : TheoryLists → List Call → Replay → Type 0
Replays T calls r = (history : List Entry) → IsLegal T history → calls_of history ≡ calls → IsReplay T history r
