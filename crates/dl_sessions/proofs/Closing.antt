-- Seats that are enrolled, jobs at them, and what comes of both when the history is whole.
use Rattle.std.proofs.Common.{◌≡◌, ℕ, ◌+◌, List, [], ◌∷◌, ◌++◌, All, Option, Some, None, IsSome, length, map, refl, sym, ap, subst, ◌∙◌, arith}
use Rattle.std.proofs.lemmas.List.Elements.{All-nil, All-cons, All-head}
use Rattle.std.proofs.lemmas.List.{length_push}
use Rattle.std.specs.List.{AllZip, range_with_len}
use Rattle.atomic_table.specs.Seated.{TableId}
use Rattle.dl_theory.specs.Lists.{TheoryLists}
use Rattle.dl_turn.specs.History.{StartsWith, HasLines, AllBelow}
use Rattle.dl_turn.specs.Views.{new_seat, numbers_of, with_own}
use Rattle.dl_calls.specs.declared.call.Call.TheVariants.{Enrol}
use Rattle.dl_calls.specs.declared.reply.Reply.TheVariants.{Enrolled}
use Rattle.dl_calls.specs.declared.entry.Entry.{Entry}
use Rattle.dl_calls.specs.Histories.{IsLegal, state_after, enrolled_seats}
use Rattle.dl_calls.proofs.Runs.{editions_stay}
use Rattle.dl_desk.specs.Offices.{SeatLists, Stays, HasCalled}
use Rattle.dl_session.specs.declared.end.End.{End}
use Rattle.dl_session.specs.Ends.{IsSession}
use Rattle.dl_session.specs.Laws.{EndsStay}
use Rattle.dl_session.specs.Seats.{editions_of}
use Rattle.dl_sessions.specs.Ending.{MayServe, MayJoin, EndsBy, HasEnded, Closes, Serves}
use Rattle.dl_sessions.specs.Halls.{IsEnrolled, AreEnrolled, IsReady}
use Rattle.dl_sessions.specs.Served.{Told, enrolment, IsSessionIn, IsServed, AllAt, AreServed}
use Rattle.dl_sessions.proofs.Lists.{begins_on, all_first, all_second, at_snoc, at_none, at_last, at_all}

some_tells : {A : Type 0} {x y : A} → Some x ≡ Some y → x ≡ y
some_tells {A} {x} e = ap (λ o. elim o [ Some z ↦ z | None ↦ x ]) e

module _ (desk : TableId) (T : TheoryLists) where
  enrolled_push : (k : ℕ) (seats : List SeatLists) (seat : SeatLists) → AreEnrolled desk T k seats → IsEnrolled desk T (k + length seats) seat
      → AreEnrolled desk T k (seats ++ seat ∷ [])
  enrolled_push k [] seat h e = (subst (λ n. IsEnrolled desk T n seat) (omega arith) e, tt)
  enrolled_push k (s ∷ seats) seat h e = (h.0, enrolled_push (k + 1) seats seat h.1 (subst (λ n. IsEnrolled desk T n seat) (omega arith) e))

  may_serve : (k : ℕ) (seat : SeatLists) → IsEnrolled desk T k seat → MayServe desk seat
  may_serve k seat e = record { place = e.place; may = record { numbered = subst IsSome (sym e.number) refl; within = e.within } }

  pub all_may_serve : (k : ℕ) (seats : List SeatLists) → AreEnrolled desk T k seats → All (MayServe desk) seats
  all_may_serve k [] h = All-nil (MayServe desk)
  all_may_serve k (seat ∷ seats) h = All-cons (MayServe desk) seat seats (may_serve k seat h.0) (all_may_serve (k + 1) seats h.1)

  -- a session that ended
  module _ (k : ℕ) (old new : Told) (seat : SeatLists) (end : End) (h : HasEnded desk T k old new seat end) where
    ended_may_join : MayJoin desk seat
    ended_may_join = let a = h.by.session.advances in record { place = a.place ∙ h.enrolled.place; within = a.within }

    ended_editions : (history : List Entry) → IsLegal T history → StartsWith history seat.seen → StartsWith (state_after T history).editions (editions_of seat)
    ended_editions history legal seen =
        let a = h.by.session.advances in
        let more = editions_stay T seat.seen seen.0 (subst (IsLegal T) seen.1 legal) in
        subst (λ S. StartsWith (state_after T history).editions (state_after S seat.seen).editions) (sym (a.start ∙ h.enrolled.start))
        (subst (λ l. StartsWith (state_after T l).editions (state_after T seat.seen).editions) (sym seen.1) more.editions)

    -- By a history that has its seat's entries: what was written, or handed on, is that of a session in it.
    module _ (history : List Entry) (count : ℕ) (stay : EndsStay) (legal : IsLegal T history) (seen : StartsWith history seat.seen)
        (lines : All (HasLines (λ e. e.seat) history count) (numbers_of seat)) where
      session_in : (sink sink_now : Option (List ℕ)) → IsSession old.rest new.rest sink sink_now h.seat seat end → IsSessionIn T history k old.rest new.rest sink sink_now end
      session_in sink sink_now s =
          let a = s.advances in
          let number : seat.number ≡ Some k = a.number ∙ h.enrolled.number in
          let mine : seat.mine ≡ enrolment k ∷ s.entries = a.mine ∙ ap (λ l. l ++ s.entries) h.enrolled.mine in
          let numbers : numbers_of seat ≡ (k, enrolment k ∷ s.entries) ∷ seat.olds = ap (λ n. with_own n seat.mine seat.olds) number ∙ ap (λ l. (k, l) ∷ seat.olds) mine in
          let L = HasLines (λ e. e.seat) history count in
          let own = All-head L (k, enrolment k ∷ s.entries) seat.olds (subst (All L) numbers lines) in
          record {
            taken = s.taken;
            written = s.written;
            entries = s.entries;
            own = sym own.0;
            took = s.took;
            within = s.within;
            wrote = s.wrote;
            ends = stay (editions_of seat) (state_after T history).editions (ended_editions history legal seen) s.entries s.taken new.rest s.written end s.ends;
          }

      ended_served : IsServed T history k old new end
      ended_served = record {
        session = session_in old.written new.written h.by.session;
        handed = λ whole. session_in old.handed new.handed (h.by.handed whole);
        cause = h.by.cause;
        source_name = h.by.source_name;
        sink_name = h.by.sink_name;
      }

  module _ {A B : Type 0} (before : A → Told) (after : B → Told) (end : B → End) where
    -- One more session was served, and its seat joined.
    serves_more : (base base_now seat : SeatLists) (streams : List A) (sessions : List B) (s : A) (session : B) → EndsStay → Serves before after end T base streams sessions
        → StartsWith base_now.seen base.seen → StartsWith base_now.seen seat.seen → base_now.olds ≡ base.olds ++ numbers_of seat
        → HasEnded desk T (0 + length sessions) (before s) (after session) seat (end session)
        → Serves before after end T base_now (streams ++ s ∷ []) (sessions ++ session ∷ [])
    serves_more base base_now seat streams sessions s session stay earlier seen seat_seen olds ended history count closes =
        let L = HasLines (λ e. e.seat) history count in
        let lines = subst (All L) olds closes.lines in
        at_snoc _ 0 streams sessions s session
        (earlier history count (record { legal = closes.legal; seen = begins_on base.seen base_now.seen history closes.seen seen; lines = all_first L base.olds (numbers_of seat) lines }))
        (ended_served (0 + length sessions) (before s) (after session) seat (end session) ended history count stay closes.legal (begins_on seat.seen base_now.seen history closes.seen seat_seen)
        (all_second L base.olds (numbers_of seat) lines))

  module _ {A D : Type 0} (before : A → Told) (ended_told : D → Told) (ended_seat : D → SeatLists) (ended_end : D → End) where
    abbrev Ended : ℕ → A → D → Type 0
    Ended k s d = HasEnded desk T k (before s) (ended_told d) (ended_seat d) (ended_end d)

    -- jobs at enrolled seats, each with its result
    module _ {J : Type 0} (job_seat : J → SeatLists) (stream : J → A) where
      abbrev By : J → D → Type 0
      By j d = EndsBy (before (stream j)) (ended_told d) (job_seat j) (ended_seat d) (ended_end d)

      results : (k : ℕ) (jobs : List J) (done : List D) → AreEnrolled desk T k (map job_seat jobs) → AllZip By jobs done → AllAt Ended k (map stream jobs) done
      results k [] [] h z = tt
      results k [] (d ∷ done) h z = absurd z
      results k (j ∷ jobs) [] h z = absurd z
      results k (j ∷ jobs) (d ∷ done) h z = (record { seat = job_seat j; enrolled = h.0; by = z.0 }, results (k + 1) jobs done h.1 z.1)

      module _ (jobs : List J) (done : List D) (seats : List SeatLists) (streams : List A) (enrolled : AreEnrolled desk T 0 seats)
          (at_seats : map job_seat jobs ≡ seats) (at_streams : map stream jobs ≡ streams) (by : AllZip By jobs done) where
        pub all_ended : AllAt Ended 0 streams done
        all_ended = subst (λ l. AllAt Ended 0 l done) at_streams (results 0 jobs done (subst (AreEnrolled desk T 0) (sym at_seats) enrolled) by)

        pub all_may_join : All (λ d. MayJoin desk (ended_seat d)) done
        all_may_join = at_all Ended (λ d. MayJoin desk (ended_seat d)) (λ k s d h. ended_may_join k (before s) (ended_told d) (ended_seat d) (ended_end d) h) 0 streams done all_ended

  module _ {A B D : Type 0} (before : A → Told) (after : B → Told) (end : B → End) (ended_told : D → Told) (ended_seat : D → SeatLists) (ended_end : D → End) where
    abbrev IsOf : ℕ → A → D → Type 0
    IsOf = Ended before ended_told ended_seat ended_end

    -- the last of sessions that ended, behind those before it
    pub serves_last : (base base_now : SeatLists) (streams : List A) (done front : List D) (d : D) (sessions : List B) (session : B) → EndsStay
        → done ≡ front ++ d ∷ [] → AllAt IsOf 0 streams done → ((first : List A) → AllAt IsOf 0 first front → Serves before after end T base first sessions)
        → length sessions ≡ length front → StartsWith base_now.seen base.seen → StartsWith base_now.seen (ended_seat d).seen → base_now ≡ record base { seen = base_now.seen; olds = base.olds ++ numbers_of (ended_seat d) }
        → after session ≡ ended_told d → end session ≡ ended_end d → Serves before after end T base_now streams (sessions ++ session ∷ [])
    serves_last base base_now streams done front d sessions session stay e all earlier long seen seat_seen joined same_told same_end =
        let last = at_last IsOf 0 streams front d (subst (λ l. AllAt IsOf 0 streams l) e all) in
        let this : HasEnded desk T (0 + length sessions) (before last.last) (after session) (ended_seat d) (end session) =
        subst (λ n. HasEnded desk T (0 + n) (before last.last) (after session) (ended_seat d) (end session)) (sym long)
        (subst (λ o. HasEnded desk T (0 + length front) (before last.last) o (ended_seat d) (end session)) (sym same_told)
        (subst (λ o. HasEnded desk T (0 + length front) (before last.last) (ended_told d) (ended_seat d) o) (sym same_end) last.this)) in
        subst (λ l. Serves before after end T base_now l (sessions ++ session ∷ [])) (sym last.is)
        (serves_more before after end base base_now (ended_seat d) last.front sessions last.last session stay (earlier last.front last.all) seen seat_seen (ap (λ (s : SeatLists). s.olds) joined) this)

    -- no session
    pub serves_none : (base : SeatLists) (streams : List A) (done : List D) (sessions : List B) → done ≡ [] → sessions ≡ [] → AllAt IsOf 0 streams done
        → Serves before after end T base streams sessions
    serves_none base streams done sessions e none all history count closes =
        let R : ℕ → A → B → Type 0 = λ number s session. IsServed T history number (before s) (after session) (end session) in
        subst (λ l. AllAt R 0 l sessions) (sym (at_none IsOf 0 streams done e all)) (subst (λ l. AllAt R 0 [] l) (sym none) tt)

module _ (desk : TableId) (base : SeatLists) where
  -- A seat that was split from the base and enrolled.
  one_enrolled : (seat seat_now : SeatLists) (n : ℕ) → seat ≡ new_seat desk base.start base.seen → Stays seat seat_now → HasCalled seat seat_now Enrol (Enrolled n)
      → seat_now.number ≡ Some n → IsEnrolled desk base.start n seat_now
  one_enrolled seat seat_now n e stays called number =
      let same : called.seat ≡ n = some_tells (sym called.number ∙ number) in
      record {
        place = stays.place ∙ ap (λ (s : SeatLists). s.place) e;
        start = stays.start ∙ ap (λ (s : SeatLists). s.start) e;
        number = number;
        mine = called.mine ∙ ap (λ (s : SeatLists). s.mine ++ record { seat = called.seat; call = Enrol; reply = Enrolled n } ∷ []) e ∙ ap (λ k. record { seat = k; call = Enrol; reply = Enrolled n } ∷ []) same;
        olds = stays.olds ∙ ap (λ (s : SeatLists). s.olds) e;
        within = stays.within;
      }

  -- a hall with one more seat
  pub ready_more : (seats seats_now : List SeatLists) (seat seat_now base_now : SeatLists) (amount amount_now n : ℕ) → IsReady desk base seats amount → base_now ≡ base
      → seat ≡ new_seat desk base.start base.seen → Stays seat seat_now → HasCalled seat seat_now Enrol (Enrolled n) → (n ≡ amount) × (seat_now.number ≡ Some n)
      → seats_now ≡ seats ++ seat_now ∷ [] → amount_now ≡ amount + 1 → IsReady desk base_now seats_now amount_now
  ready_more seats seats_now seat seat_now base_now amount amount_now n ready same split stays called number more counted =
      let place : n ≡ 0 + length seats = omega (arith, number.0, ready.counted) in
      let one = subst (λ k. IsEnrolled desk base.start k seat_now) place (one_enrolled seat seat_now n split stays called number.1) in
      let whole : IsReady desk base (seats ++ seat_now ∷ []) amount_now =
      record { is_base = ready.is_base; enrolled = enrolled_push desk base.start 0 seats seat_now ready.enrolled one; counted = omega (arith, counted, ready.counted, length_push seats seat_now) } in
      subst (λ b. IsReady desk b seats_now amount_now) (sym same) (subst (λ l. IsReady desk base l amount_now) (sym more) whole)

-- what is told of all sessions when the board is taken back
pub are_served : {A B : Type 0} (before : A → Told) (after : B → Told) (end : B → End) (T U : TheoryLists) (base : SeatLists) (streams : List A) (sessions : List B)
    (history : List Entry) (count amount : ℕ) → T ≡ U → base.start ≡ T → Closes base.start base history count → Serves before after end T base streams sessions
    → enrolled_seats history ≡ range_with_len 0 amount → AllBelow (λ e. e.seat) amount history → amount ≡ length sessions → AreServed before after end U streams history sessions
are_served before after end T U base streams sessions history count amount same start closes serves enrolled below long =
    let closed : Closes T base history count = subst (λ S. Closes S base history count) start closes in
    subst (λ S. AreServed before after end S streams history sessions) same
    (record { legal = closed.legal; enrolled = enrolled ∙ ap (λ n. range_with_len 0 n) long; below = subst (λ n. AllBelow (λ e. e.seat) n history) long below; each = serves history count closed })
