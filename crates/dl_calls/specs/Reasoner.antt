-- The reasoner of one thread: its state, and what each call answers and changes.
use Rattle.std.specs.Prelude.{◌≡◌, ℕ, ◌+◌, ◌<◌, List, [], ◌∷◌, ◌++◌, length, nat_lt, if◌then◌else◌}
use Rattle.dl_theory.specs.Lists.{TheoryLists}
use Rattle.dl_theory.specs.Edits.{after_edit, IsAccepted, IsRefused}
use Rattle.dl_calls.specs.declared.call.Call.{Call}
use Rattle.dl_calls.specs.declared.call.Call.TheVariants.{Enrol, Edit, Publish, Hold}
use Rattle.dl_calls.specs.declared.reply.Reply.{Reply}
use Rattle.dl_calls.specs.declared.reply.Reply.TheVariants.{Enrolled, Edited, EditRefused, Edition, Holding, Unpublished}

pub record State : Type 0 where
  -- what edits change
  pub draft : TheoryLists
  -- the theories that were published, in order
  pub editions : List TheoryLists
  -- how many seats are enrolled
  pub count : ℕ

-- no edition and no seat
abbrev pub opening : TheoryLists → State
opening T = record { draft = T; editions = []; count = 0 }

-- what a hold answers where so many editions are published
abbrev pub held : ℕ → ℕ → Reply
held n published = if nat_lt n published then Holding n else Unpublished n published

-- In this state the seat's call gets this reply, and leads to the next state. Only the next seat enrols, and only enrolled
-- seats make other calls.
abbrev pub IsStep : State → ℕ → Call → Reply → State → Type 0
IsStep s seat Enrol reply next = (seat ≡ s.count) × (reply ≡ Enrolled s.count) × (next ≡ record s { count = s.count + 1 })
IsStep s seat (Edit e) Edited next = (seat < s.count) × IsAccepted s.draft e × (next ≡ record s { draft = after_edit s.draft e })
IsStep s seat (Edit e) (EditRefused x) next = (seat < s.count) × IsRefused s.draft e x × (next ≡ s)
IsStep s seat Publish reply next =
    (seat < s.count) × (reply ≡ Edition (length s.editions)) × (next ≡ record s { editions = s.editions ++ s.draft ∷ [] })
IsStep s seat (Hold n) reply next = (seat < s.count) × (reply ≡ held n (length s.editions)) × (next ≡ s)
IsStep s seat (Edit e) _ next = ⊥
