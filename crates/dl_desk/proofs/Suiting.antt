-- A step's reply is of the kinds of its call.
use Rattle.std.proofs.Common.{◌≡◌, ℕ, List, [], ◌∷◌, ◌++◌, refl, sym, subst}
use Rattle.std.specs.Prelude.{Bool, true, false, length, nat_lt, if◌then◌else◌}
use Rattle.dl_theory.specs.Lists.{TheoryLists}
use Rattle.dl_calls.specs.declared.call.Call.{Call}
use Rattle.dl_calls.specs.declared.call.Call.TheVariants.{Enrol, Edit, Publish, Hold}
use Rattle.dl_calls.specs.declared.reply.Reply.{Reply}
use Rattle.dl_calls.specs.declared.reply.Reply.TheVariants.{Edited, EditRefused, Holding, Unpublished}
use Rattle.dl_calls.specs.declared.entry.Entry.{Entry}
use Rattle.dl_calls.specs.Reasoner.{State, IsStep}
use Rattle.dl_calls.specs.Histories.{IsLegal, state_after}
use Rattle.dl_calls.proofs.Runs.{last_entry_is_a_step}
use Rattle.dl_desk.specs.Turning.{Suits}

either_suits : (n published : ℕ) (found : Bool) → Suits (Hold n) (if found then Holding n else Unpublished n published)
either_suits n published true = refl
either_suits n published false = tt

step_suits : (s next : State) (seat : ℕ) (asked : Call) (reply : Reply) → ¬ (asked ≡ Enrol) → IsStep s seat asked reply next → Suits asked reply
step_suits s next seat Enrol reply other h = absurd (other refl)
step_suits s next seat (Edit e) Edited other h = tt
step_suits s next seat (Edit e) (EditRefused x) other h = tt
step_suits s next seat Publish reply other h = subst (λ (r : Reply). Suits Publish r) (sym h.1) tt
step_suits s next seat (Hold n) reply other h =
    subst (λ (r : Reply). Suits (Hold n) r) (sym h.1) (either_suits n (length s.editions) (nat_lt n (length s.editions)))
step_suits s next seat (Edit e) _ other h = absurd h

-- the last entry of a legal history has a reply of the kinds of its call
pub last_suits : (T : TheoryLists) (history : List Entry) (e : Entry) → ¬ (e.call ≡ Enrol) → IsLegal T (history ++ e ∷ []) → Suits e.call e.reply
last_suits T history e other h =
    step_suits (state_after T history) (state_after T (history ++ e ∷ [])) e.seat e.call e.reply other (last_entry_is_a_step T history e h)
