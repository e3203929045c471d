-- Histories one entry longer, and what a history keeps of those it begins with.
use Rattle.std.proofs.Common.{◌≡◌, ℕ, zero, suc, ◌+◌, ◌<◌, ◌≤◌, List, [], ◌∷◌, ◌++◌, All, refl, sym, ap, subst, ◌∙◌, append_assoc, append-nil, arith}
use Rattle.std.proofs.lemmas.List.Elements.{All-push}
use Rattle.std.specs.List.{range_with_len}
use Rattle.dl_turn.specs.History.{StartsWith}
use Rattle.dl_theory.specs.Lists.{TheoryLists, IsWellFormed}
use Rattle.dl_theory.proofs.WellFormed.{edit_keeps}
use Rattle.dl_calls.specs.declared.call.Call.{Call}
use Rattle.dl_calls.specs.declared.call.Call.TheVariants.{Enrol, Edit, Publish, Hold}
use Rattle.dl_calls.specs.declared.reply.Reply.{Reply}
use Rattle.dl_calls.specs.declared.reply.Reply.TheVariants.{Edited, EditRefused}
use Rattle.dl_calls.specs.declared.entry.Entry.{Entry}
use Rattle.dl_calls.specs.Reasoner.{State, opening, IsStep}
use Rattle.dl_calls.specs.Histories.{next, after, after_all, Runs, state_after, IsLegal, enrolled_seats}
use Rattle.dl_calls.specs.Laws.{RepliesTellStates, EditionsStay, SeatsAreEnrolled, EnrolmentsCountUp, LastEntryIsAStep, HasWellFormed, TheoriesStayWellFormed}

pub replies_tell_states : RepliesTellStates
replies_tell_states s end seat Enrol reply h = h.2
replies_tell_states s end seat (Edit e) Edited h = h.2
replies_tell_states s end seat (Edit e) (EditRefused x) h = h.2
replies_tell_states s end seat Publish reply h = h.2
replies_tell_states s end seat (Hold n) reply h = h.2
replies_tell_states s end seat (Edit e) _ h = absurd h

-- the state after entries and more of them
pub after_more : (s : State) (first more : List Entry) → after_all s (first ++ more) ≡ after_all (after_all s first) more
after_more s [] more = refl
after_more s (e ∷ first) more = after_more (after s e) first more

-- entries that run, and more that run from the state after them
pub runs_more : (s : State) (first more : List Entry) → Runs s first → Runs (after_all s first) more → Runs s (first ++ more)
runs_more s [] more h k = k
runs_more s (e ∷ first) more h k = (h.0, runs_more (after s e) first more h.1 k)

runs_first : (s : State) (first more : List Entry) → Runs s (first ++ more) → Runs s first
runs_first s [] more h = tt
runs_first s (e ∷ first) more h = (h.0, runs_first (after s e) first more h.1)

-- A legal history grows by a step.
pub legal_more : (T : TheoryLists) (history : List Entry) (e : Entry) → IsLegal T history → IsStep (state_after T history) e.seat e.call e.reply (after (state_after T history) e) → IsLegal T (history ++ e ∷ [])
legal_more T history e h step = runs_more (opening T) history (e ∷ []) h (step, tt)

pub state_more : (T : TheoryLists) (history : List Entry) (e : Entry) → state_after T (history ++ e ∷ []) ≡ after (state_after T history) e
state_more T history e = after_more (opening T) history (e ∷ [])

-- the last of entries that run is a step
runs_last : (s : State) (first : List Entry) (e : Entry) → Runs s (first ++ e ∷ [])
    → IsStep (after_all s first) e.seat e.call e.reply (after (after_all s first) e)
runs_last s [] e h = h.0
runs_last s (x ∷ first) e h = runs_last (after s x) first e h.1

pub last_entry_is_a_step : LastEntryIsAStep
last_entry_is_a_step T history e h =
    subst (λ (s : State). IsStep (state_after T history) e.seat e.call e.reply s) (sym (state_more T history e)) (runs_last (opening T) history e h)

-- editions

step_keeps : (s : State) (call : Call) (reply : Reply) → StartsWith (next s call reply).editions s.editions
step_keeps s Enrol reply = ([], sym (append-nil s.editions))
step_keeps s (Edit e) Edited = ([], sym (append-nil s.editions))
step_keeps s (Edit e) _ = ([], sym (append-nil s.editions))
step_keeps s Publish reply = (s.draft ∷ [], refl)
step_keeps s (Hold n) reply = ([], sym (append-nil s.editions))

begins_on : {A : Type 0} (xs ys zs : List A) → StartsWith zs ys → StartsWith ys xs → StartsWith zs xs
begins_on xs ys zs a b = (b.0 ++ a.0, a.1 ∙ ap (λ l. l ++ a.0) b.1 ∙ append_assoc xs b.0 a.0)

editions_grow : (s : State) (more : List Entry) → StartsWith (after_all s more).editions s.editions
editions_grow s [] = ([], sym (append-nil s.editions))
editions_grow s (e ∷ more) = begins_on s.editions (after s e).editions _ (editions_grow (after s e) more) (step_keeps s e.call e.reply)

pub editions_stay : EditionsStay
editions_stay T first more h = record {
  legal = runs_first (opening T) first more h;
  editions = subst (λ (s : State). StartsWith s.editions (state_after T first).editions) (sym (after_more (opening T) first more)) (editions_grow (state_after T first) more);
}

-- seats

step_counts : (s : State) (call : Call) (reply : Reply) → s.count ≤ (next s call reply).count
step_counts s Enrol reply = omega arith
step_counts s (Edit e) Edited = omega arith
step_counts s (Edit e) _ = omega arith
step_counts s Publish reply = omega arith
step_counts s (Hold n) reply = omega arith

counts_grow : (s : State) (more : List Entry) → s.count ≤ (after_all s more).count
counts_grow s [] = omega arith
counts_grow s (e ∷ more) = let one = step_counts s e.call e.reply in let rest = counts_grow (after s e) more in omega arith

step_seat : (s : State) (seat : ℕ) (call : Call) (reply : Reply) → IsStep s seat call reply (next s call reply) → seat < (next s call reply).count
step_seat s seat Enrol reply h = let e = h.0 in omega arith
step_seat s seat (Edit e) Edited h = h.0
step_seat s seat (Edit e) (EditRefused x) h = h.0
step_seat s seat Publish reply h = h.0
step_seat s seat (Hold n) reply h = h.0
step_seat s seat (Edit e) _ h = absurd h

below : (s : State) (history : List Entry) → Runs s history → All (λ e. e.seat < (after_all s history).count) history
below s [] h k d l = absurd (omega arith)
below s (e ∷ more) h zero d l = let one = step_seat s e.seat e.call e.reply h.0 in let rest = counts_grow (after s e) more in omega arith
below s (e ∷ more) h (suc k) d l = below (after s e) more h.1 k d (omega arith)

pub seats_are_enrolled : SeatsAreEnrolled
seats_are_enrolled T history h = below (opening T) history h

-- the seats from the first count up to the last
abbrev CountUp : ℕ → ℕ → List ℕ → Type 0
CountUp first last seats = (n : ℕ) × (last ≡ first + n) × (seats ≡ range_with_len first n)

abbrev entry : ℕ → Call → Reply → Entry
entry seat call reply = record { seat = seat; call = call; reply = reply }

step_enrols : (s : State) (seat last : ℕ) (call : Call) (reply : Reply) (more : List Entry) → IsStep s seat call reply (next s call reply)
    → CountUp (next s call reply).count last (enrolled_seats more) → CountUp s.count last (enrolled_seats (entry seat call reply ∷ more))
step_enrols s seat last Enrol reply more h c = (suc c.0, omega (arith, c.1), λ i. h.0 i ∷ c.2 i)
step_enrols s seat last (Edit e) Edited more h c = c
step_enrols s seat last (Edit e) (EditRefused x) more h c = c
step_enrols s seat last Publish reply more h c = c
step_enrols s seat last (Hold n) reply more h c = c
step_enrols s seat last (Edit e) _ more h c = absurd h

count_up : (s : State) (history : List Entry) → Runs s history → CountUp s.count (after_all s history).count (enrolled_seats history)
count_up s [] h = (0, omega arith, refl)
count_up s (e ∷ more) h = step_enrols s e.seat (after_all s (e ∷ more)).count e.call e.reply more h.0 (count_up (after s e) more h.1)

pub enrolments_count_up : EnrolmentsCountUp
enrolments_count_up T history h =
    let c = count_up (opening T) history h in
    c.2 ∙ ap (λ (n : ℕ). range_with_len 0 n) (omega (arith, c.1))

-- theories

step_forms : (s : State) (seat : ℕ) (call : Call) (reply : Reply) → IsStep s seat call reply (next s call reply) → HasWellFormed s → HasWellFormed (next s call reply)
step_forms s seat Enrol reply h w = record { draft = w.draft; editions = w.editions }
step_forms s seat (Edit e) Edited h w = record { draft = edit_keeps s.draft e w.draft h.1; editions = w.editions }
step_forms s seat (Edit e) (EditRefused x) h w = w
step_forms s seat Publish reply h w = record { draft = w.draft; editions = All-push IsWellFormed s.editions s.draft w.editions w.draft }
step_forms s seat (Hold n) reply h w = w
step_forms s seat (Edit e) _ h w = absurd h

all_formed : (s : State) (history : List Entry) → Runs s history → HasWellFormed s → HasWellFormed (after_all s history)
all_formed s [] h w = w
all_formed s (e ∷ more) h w = all_formed (after s e) more h.1 (step_forms s e.seat e.call e.reply h.0 w)

pub theories_stay_well_formed : TheoriesStayWellFormed
theories_stay_well_formed T history well h = all_formed (opening T) history h (record { draft = well; editions = λ k d l. absurd (omega arith) })
