-- The calls of one seat, which are its board's whole history.
use Rattle.std.proofs.Common.{◌≡◌, ℕ, ◌<◌, ◌-◌, ◌==◌, true, List, [], ◌∷◌, ◌++◌, flat_map, Option, Some, IsSome, length, ap, sym, subst, refl, ◌∙◌, append_assoc, append-nil, arith}
use Rattle.atomic_table.specs.Seated.{TableId}
use Rattle.std.specs.Prelude.{All, remove, slice_get}
use Rattle.std.proofs.lemmas.List.{map-append, length_push}
use Rattle.std.proofs.lemmas.List.Elements.{All-weaker}
use Rattle.dl_base.proofs.Filters.{filter_all}
use Rattle.dl_theory.specs.Lists.{TheoryLists}
use Rattle.dl_turn.specs.History.{own_lines, AllBelow}
use Rattle.dl_turn.specs.Views.{new_seat}
use Rattle.dl_calls.specs.declared.call.Call.{Call}
use Rattle.dl_calls.specs.declared.call.Call.TheVariants.{Enrol, Publish}
use Rattle.dl_calls.specs.declared.reply.Reply.{Reply}
use Rattle.dl_calls.specs.declared.reply.Reply.TheVariants.{Enrolled}
use Rattle.dl_calls.specs.declared.entry.Entry.{Entry}
use Rattle.dl_calls.specs.Reasoner.{State, opening}
use Rattle.dl_calls.specs.Histories.{next, after, after_all, state_after, IsLegal}
use Rattle.dl_edition.specs.Offices.{SeatLists, MayCall, Stays, HasCalled, IsCall}
use Rattle.dl_desk.specs.Boards.{BoardLists}
use Rattle.dl_summary.specs.declared.summary.Summary.{Summary}
use Rattle.dl_draw.specs.Generator.{generated_theory, generated_calls, draw_each, draw_calls, draw_lists}
use Rattle.dl_gen.specs.Running.{IsChange, HasMade, IsRun, IsGenerated, EndsPublished}
use Rattle.dl_summary.specs.Summary.{IsSummaryOf, IsSummary, calls_of}
use Rattle.dl_summary.specs.declared.replay.Replay.{Replay}
use Rattle.dl_summary.specs.Replaying.{IsReplay, Replays}
use Rattle.dl_summary.proofs.Replayed.{rest_calls}
use Rattle.dl_draw.proofs.EachCall.{each_call}

-- a call is one more of the seat's own
pub call_made : (old new : SeatLists) (asked : Call) (answer : Reply) → HasCalled old new asked answer → calls_of new.mine ≡ calls_of old.mine ++ asked ∷ []
call_made old new asked answer h =
    ap calls_of h.mine ∙ map-append (λ (e : Entry). e.call) old.mine (record { seat = h.seat; call = asked; reply = answer } ∷ [])

-- a call that was answered
pub one_made : (old new : SeatLists) (asked : Call) (answer : Reply) → MayCall old → IsCall old new asked (Some answer) → HasMade old new (asked ∷ [])
one_made old new asked answer may called = record {
  place = called.stays.place;
  start = called.stays.start;
  number = called.number;
  within = called.stays.within;
  calls = call_made old new asked answer called.tells;
}

pub none_made : (seat : SeatLists) → MayCall seat → HasMade seat seat []
none_made seat may = record { place = refl; start = refl; number = refl; within = may.within; calls = sym (append-nil (calls_of seat.mine)) }

pub more_made : (old between new : SeatLists) (made : List Call) (call : Call) → HasMade old between made → HasMade between new (call ∷ []) → HasMade old new (made ++ call ∷ [])
more_made old between new made call h k = record {
  place = k.place ∙ h.place;
  start = k.start ∙ h.start;
  number = k.number ∙ h.number;
  within = k.within;
  calls = k.calls ∙ ap (λ (l : List Call). l ++ call ∷ []) h.calls ∙ append_assoc (calls_of old.mine) made (call ∷ []);
}

pub may_still : (old new : SeatLists) (made : List Call) → MayCall old → HasMade old new made → MayCall new
may_still old new made may h = record { numbered = subst IsSome (sym h.number) may.numbered; within = h.within }

zero_is : (n : ℕ) → n < 1 → (n == 0) ≡ true
zero_is n h = let none : n ≡ 0 = omega (arith, h) in subst (λ (k : ℕ). (k == 0) ≡ true) (sym none) refl

-- where only the seat 0 is enrolled, each entry is its own
pub one_seat : (history mine : List Entry) (number : Option ℕ) → number ≡ Some 0 → AllBelow (λ e. e.seat) 1 history
    → mine ≡ own_lines (λ e. e.seat) number history → history ≡ mine
one_seat history mine number zero below own =
    sym (filter_all (λ (e : Entry). e.seat == 0) history (All-weaker (λ (e : Entry). e.seat < 1) (λ e. (e.seat == 0) ≡ true) (λ e h. zero_is e.seat h) history below))
    ∙ sym (own ∙ ap (λ n. own_lines (λ (e : Entry). e.seat) n history) zero)

-- the run of the only seat, from its enrolment to the end
pub is_run : (T : TheoryLists) (place : TableId) (seat entered done : SeatLists) (made : List Call) (n : ℕ) (board : BoardLists)
    → seat ≡ new_seat place T [] → Stays seat entered → HasCalled seat entered Enrol (Enrolled n) → entered.number ≡ Some n → n ≡ 0 → HasMade entered done made
    → board.start ≡ done.start → IsLegal board.start board.history → done.mine ≡ own_lines (λ e. e.seat) done.number board.history
    → AllBelow (λ e. e.seat) board.enrolled board.history → board.enrolled ≡ 1 → IsRun T made board
is_run T place seat entered done made n board new stays called number zero h begins legal own below one =
    let start : board.start ≡ T = begins ∙ h.start ∙ stays.start ∙ ap (λ (s : SeatLists). s.start) new in
    let whole : board.history ≡ done.mine =
    one_seat board.history done.mine done.number (h.number ∙ number ∙ ap (λ (k : ℕ). Some k) zero) (subst (λ (k : ℕ). AllBelow (λ (e : Entry). e.seat) k board.history) one below) own in
    let enrolled : calls_of entered.mine ≡ Enrol ∷ [] =
    call_made seat entered Enrol (Enrolled n) called ∙ ap (λ (s : SeatLists). calls_of s.mine ++ Enrol ∷ []) new in
    record {
      start = start;
      legal = subst (λ (S : TheoryLists). IsLegal S board.history) start legal;
      calls = ap calls_of whole ∙ h.calls ∙ ap (λ (l : List Call). l ++ made) enrolled;
    }

-- what stands behind the enrolment
pub behind_first : (calls rest : List Call) (first : Call) → calls ≡ first ∷ rest → remove calls 0 ≡ rest
behind_first calls rest first e = ap (λ (l : List Call). remove l 0) e

pub all_change : (seed size : ℕ) → All IsChange (remove (generated_calls seed size) 0)
all_change seed size = each_call IsChange (λ size k x. tt) tt seed size

-- Where the last call is a publication, the last edition is the draft.
ends_published : (s : State) (history : List Entry) (calls : List Call) → calls_of history ≡ calls ++ Publish ∷ [] → EndsPublished (after_all s history)
ends_published s [] [] e = absurd (cc)
ends_published s [] (c ∷ calls) e = absurd (cc)
ends_published s (x ∷ []) [] e =
    let publishes : x.call ≡ Publish = cc in
    subst (λ (c : Call). EndsPublished (next s c x.reply)) (sym publishes) (record { before = s.editions; last = refl })
ends_published s (x ∷ y ∷ more) [] e = absurd (cc (rest_calls x.call Publish (y.call ∷ calls_of more) [] e))
ends_published s (x ∷ more) (c ∷ calls) e = ends_published (after s x) more calls (rest_calls x.call c (calls_of more) (calls ++ Publish ∷ []) e)

pub generated_end : (T : TheoryLists) (seed size : ℕ) (history : List Entry) → calls_of history ≡ generated_calls seed size → EndsPublished (state_after T history)
generated_end T seed size history e =
    ends_published (opening T) history (Enrol ∷ flat_map (λ calls. calls) (draw_each (draw_calls size) size (draw_lists size seed).state).value) e

at_end : (Ts : List TheoryLists) (T : TheoryLists) → slice_get (Ts ++ T ∷ []) (length Ts) ≡ Some T
at_end [] T = refl
at_end (U ∷ Ts) T = at_end Ts T

-- the draft stands last among the editions
pub some_edition : (s : State) → EndsPublished s → 0 < length s.editions
some_edition s h = omega (arith, ap length h.last, length_push h.before s.draft)

pub last_edition : (s : State) → EndsPublished s → slice_get s.editions (length s.editions - 1) ≡ Some s.draft
last_edition s h =
    let place : length s.editions - 1 ≡ length h.before = omega (arith, ap length h.last, length_push h.before s.draft) in
    ap (λ n. slice_get s.editions n) place ∙ ap (λ l. slice_get l (length h.before)) h.last ∙ at_end h.before s.draft

-- a run of the calls of a number
pub is_generated : (seed size : ℕ) (T : TheoryLists) (made : List Call) (board : BoardLists) → T ≡ generated_theory seed size → Enrol ∷ made ≡ generated_calls seed size
    → IsRun T made board → IsGenerated seed size board
is_generated seed size T made board same calls run = record {
  start = run.start ∙ same;
  legal = subst (λ (S : TheoryLists). IsLegal S board.history) (sym run.start) run.legal;
  calls = run.calls ∙ calls;
}

-- its replay
pub is_replay : (seed size : ℕ) (board : BoardLists) (r : Replay) → IsGenerated seed size board → Replays (generated_theory seed size) (generated_calls seed size) r
    → IsReplay board.start board.history r
is_replay seed size board r run h =
    subst (λ (S : TheoryLists). IsReplay S board.history r) (sym run.start)
    (h board.history (subst (λ (S : TheoryLists). IsLegal S board.history) run.start run.legal) run.calls)

-- and its summary
pub is_summary : (seed size : ℕ) (board : BoardLists) (s : Summary) → IsGenerated seed size board → IsSummaryOf board.start board.history s → IsSummary seed size s
is_summary seed size board s run h = record {
  history = board.history;
  legal = subst (λ (S : TheoryLists). IsLegal S board.history) run.start run.legal;
  calls = run.calls;
  comes_to = subst (λ (S : TheoryLists). IsSummaryOf S board.history s) run.start h;
}
