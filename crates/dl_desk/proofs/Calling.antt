-- A turn of the board between a take and a give, as the holder of the seat sees it.
use Rattle.std.proofs.Common.{◌≡◌, ◌∙◌, ℕ, ◌+◌, List, [], ◌∷◌, ◌++◌, ap, subst, sym, refl, inl, inr}
use Rattle.std.specs.Prelude.{Option, Some, None, Result, Ok, Err, IfOk, OnErr, OnOk}
use Rattle.dl_turn.specs.History.{StartsWith}
use Rattle.dl_turn.specs.Views.{with_board, MayGive}
use Rattle.dl_theory.specs.Lists.{TheoryLists}
use Rattle.dl_calls.specs.declared.call.Call.{Call}
use Rattle.dl_calls.specs.declared.call.Call.TheVariants.{Enrol}
use Rattle.dl_calls.specs.declared.reply.Reply.{Reply}
use Rattle.dl_calls.specs.declared.reply.Reply.TheVariants.{Enrolled}
use Rattle.dl_calls.specs.declared.entry.Entry.{Entry}
use Rattle.dl_calls.specs.Histories.{IsLegal, state_after}
use Rattle.dl_board.specs.Boards.{BoardLists, IsAsBefore}
use Rattle.dl_board.specs.Turns.{IsTurn, HandsOut, reply_of}
use Rattle.dl_board.specs.declared.turned.Turned.{Turned}
use Rattle.dl_edition.specs.Offices.{SeatLists, Stays, HasWaited, Tells, IsCall, enrol_reply}
use Rattle.dl_desk.specs.Turning.{turned_reply, Suits}
use Rattle.dl_desk.proofs.Suiting.{last_suits}

abbrev pub entry : ℕ → Call → Reply → Entry
entry seat asked answer = record { seat = seat; call = asked; reply = answer }

-- while the board is out: the history and the count that were taken
abbrev board_out : List Entry → ℕ → Option (List Entry × ℕ)
board_out history count = Some (history, count)

-- the seat that comes back from a give of a board with this history
abbrev pub given : SeatLists → List Entry → Option ℕ → List Entry → SeatLists
given v history number mine = record v { number = number; seen = history; mine = mine; out = None }

as_before : (old new : BoardLists) → new ≡ old → IsAsBefore old new
as_before old new same = record {
  start = ap (λ (B : BoardLists). B.start) same;
  history = ap (λ (B : BoardLists). B.history) same;
  enrolled = ap (λ (B : BoardLists). B.enrolled) same;
}

-- a turn leaves the start
pub turn_starts : {M : Type 0} (old new : BoardLists) (k : ℕ) (asked : Call) (r : Result Turned M) → IfOk r (IsTurn old new k asked)
    → OnErr r (IsAsBefore old new) → new.start ≡ old.start
turn_starts old new k asked (Ok t) turn kept = turn.start
turn_starts old new k asked (Err m) turn kept = kept.start

-- v is the seat before, and t with the board out; the board was old when it was taken, and is new
module _ (v t : SeatLists) (old new : BoardLists) (taken : t ≡ with_board v old.history old.enrolled) (start : old.start ≡ v.start) where
  pub gives_start : new.start ≡ old.start → new.start ≡ t.start
  gives_start same = same ∙ start ∙ sym (ap (λ (s : SeatLists). s.start) taken)

  out_is : (count : ℕ) → old.enrolled ≡ count → t.out ≡ Some (old.history, count)
  out_is count is = ap (λ (s : SeatLists). s.out) taken ∙ ap (board_out old.history) is

  out_kept : IsAsBefore old new → t.out ≡ Some (new.history, new.enrolled)
  out_kept kept = out_is new.enrolled (sym kept.enrolled) ∙ ap (λ (l : List Entry). board_out l new.enrolled) (sym kept.history)

  -- the turn's board may be given back
  pub may_give : {M : Type 0} (k : ℕ) (asked : Call) (r : Result Turned M) → IfOk r (IsTurn old new k asked) → OnErr r (IsAsBefore old new) → v.number ≡ Some k
      → MayGive (λ (e : Entry). e.seat) t.out t.number new.history new.enrolled
  may_give k asked (Ok x) turn kept number =
      inr (inl (old.history, entry k asked (reply_of x), out_is new.enrolled (sym turn.enrolled), turn.history, ap (λ (s : SeatLists). s.number) taken ∙ number))
  may_give k asked (Err m) turn kept number = inl (out_kept kept)

  -- so may that of an enrolment
  pub may_give_first : {M : Type 0} (amount : ℕ) (r : Result ℕ M) → IfOk r (λ k. (k ≡ amount) × (k ≡ old.enrolled))
      → IfOk r (λ k. new.history ≡ old.history ++ entry k Enrol (Enrolled k) ∷ []) → OnOk r (new.enrolled ≡ old.enrolled + 1) → OnErr r (new ≡ old)
      → v.number ≡ None → MayGive (λ (e : Entry). e.seat) t.out t.number new.history new.enrolled
  may_give_first amount (Ok k) next grown more kept none =
      inr (inr (
        old.history,
        entry k Enrol (Enrolled k),
        out_is k (sym next.1),
        grown,
        ap (λ (s : SeatLists). s.number) taken ∙ none,
        more ∙ ap (λ (n : ℕ). n + 1) (sym next.1),
      ))
  may_give_first amount (Err m) next grown more kept none = inl (out_kept (as_before old new kept))

  -- w is the seat after the give
  module _ (w : SeatLists) (back : w ≡ given t new.history w.number w.mine) (seen : StartsWith old.history v.seen) (legal : IsLegal new.start new.history) where
    seen_is : w.seen ≡ new.history
    seen_is = ap (λ (s : SeatLists). s.seen) back

    start_is : w.start ≡ v.start
    start_is = ap (λ (s : SeatLists). s.start) back ∙ ap (λ (s : SeatLists). s.start) taken

    -- what holds of the start and the history of the board holds of what the seat has seen
    of_seen : (P : TheoryLists → List Entry → Type 0) → new.start ≡ old.start → P new.start new.history → P w.start w.seen
    of_seen P same h =
        subst (λ (T : TheoryLists). P T w.seen) (same ∙ start ∙ sym start_is) (subst (λ (l : List Entry). P new.start l) (sym seen_is) h)

    pub stays : new.start ≡ old.start → Stays v w
    stays same = record {
      place = ap (λ (s : SeatLists). s.place) back ∙ ap (λ (s : SeatLists). s.place) taken;
      start = start_is;
      olds = ap (λ (s : SeatLists). s.olds) back ∙ ap (λ (s : SeatLists). s.olds) taken;
      within = ap (λ (s : SeatLists). s.out) back;
      legal = of_seen IsLegal same legal;
    }

    -- the entry stands last in what the seat has seen
    last_seen : (e : Entry) → new.history ≡ old.history ++ e ∷ [] → w.seen ≡ (v.seen ++ seen.0) ++ e ∷ []
    last_seen e grown = seen_is ∙ grown ∙ ap (λ (l : List Entry). l ++ e ∷ []) seen.1

    -- nothing was added
    waited : IsAsBefore old new → ((w.number ≡ t.number) × (w.mine ≡ t.mine)) → HasWaited v w
    waited kept same = record {
      number = same.0 ∙ ap (λ (s : SeatLists). s.number) taken;
      mine = same.1 ∙ ap (λ (s : SeatLists). s.mine) taken;
      seen = (seen.0, seen_is ∙ kept.history ∙ seen.1);
    }

    module _ (as_taken : t.out ≡ Some (new.history, new.enrolled) → (w.number ≡ t.number) × (w.mine ≡ t.mine)) where
      kept_same : IsAsBefore old new → (w.number ≡ t.number) × (w.mine ≡ t.mine)
      kept_same kept = as_taken (out_kept kept)

      pub first_told : {M : Type 0} (amount : ℕ) (r : Result ℕ M) → IfOk r (λ k. (k ≡ amount) × (k ≡ old.enrolled))
          → IfOk r (λ k. new.history ≡ old.history ++ entry k Enrol (Enrolled k) ∷ []) → OnOk r (new.enrolled ≡ old.enrolled + 1) → OnErr r (new ≡ old)
          → ((before : List Entry) (l : Entry) → t.out ≡ Some (before, l.seat) → new.history ≡ before ++ l ∷ [] → new.enrolled ≡ l.seat + 1
          → (w.number ≡ Some l.seat) × (w.mine ≡ t.mine ++ l ∷ []))
          → Tells v w Enrol (enrol_reply r) × IfOk r (λ k. (k ≡ amount) × (w.number ≡ Some k))
      first_told amount (Ok k) next grown more kept first =
          let e = entry k Enrol (Enrolled k) in
          let got = first old.history e (out_is k (sym next.1)) grown (more ∙ ap (λ (n : ℕ). n + 1) (sym next.1)) in (
            record {
              seat = k;
              number = got.0;
              between = seen.0;
              seen = last_seen e grown;
              mine = got.1 ∙ ap (λ (s : SeatLists). s.mine ++ e ∷ []) taken;
            },
            (next.0, got.0),
          )
      first_told amount (Err m) next grown more kept first = (let same = as_before old new kept in (waited same (kept_same same), tt))

      pub called : {M : Type 0} (k : ℕ) (asked : Call) (r : Result Turned M) → IfOk r (IsTurn old new k asked) → OnErr r (IsAsBefore old new) → v.number ≡ Some k
          → ((before : List Entry) (l : Entry) → t.out ≡ Some (before, new.enrolled) → new.history ≡ before ++ l ∷ []
          → (w.number ≡ t.number) × (w.mine ≡ t.mine ++ l ∷ []))
          → IsCall v w asked (turned_reply r)
      called k asked (Ok x) turn kept number own =
          let e = entry k asked (reply_of x) in
          let got = own old.history e (out_is new.enrolled (sym turn.enrolled)) turn.history in
          let same = got.0 ∙ ap (λ (s : SeatLists). s.number) taken in
          record {
            stays = stays turn.start;
            number = same;
            tells = record {
              seat = k;
              number = same ∙ number;
              between = seen.0;
              seen = last_seen e turn.history;
              mine = got.1 ∙ ap (λ (s : SeatLists). s.mine ++ e ∷ []) taken;
            };
          }
      called k asked (Err m) turn kept number own =
          let got = kept_same kept in
          record {
            stays = stays kept.start;
            number = got.0 ∙ ap (λ (s : SeatLists). s.number) taken;
            tells = waited kept got;
          }

    -- what is handed out is an edition of what the seat has seen
    pub handed_out : {M : Type 0} (k : ℕ) (asked : Call) (r : Result Turned M) → IfOk r (IsTurn old new k asked)
        → IfOk r (λ x. HandsOut (state_after w.start w.seen) x)
    handed_out k asked (Ok x) turn = of_seen (λ T l. HandsOut (state_after T l) x) turn.start turn.hands_out
    handed_out k asked (Err m) turn = tt

-- an answer is of the kinds of its call
pub turn_suits : {M : Type 0} (old new : BoardLists) (k : ℕ) (asked : Call) (r : Result Turned M) → ¬ (asked ≡ Enrol) → IfOk r (IsTurn old new k asked)
    → IsLegal new.start new.history → IfOk r (λ x. Suits asked (reply_of x))
turn_suits old new k asked (Ok x) other turn legal =
    last_suits new.start old.history (entry k asked (reply_of x)) other (subst (λ (l : List Entry). IsLegal new.start l) turn.history legal)
turn_suits old new k asked (Err m) other turn legal = tt
