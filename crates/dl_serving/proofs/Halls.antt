-- From streams and sessions to what they tell.
use Rattle.std.proofs.Common.{◌≡◌, ◌∙◌, inl, inr, ℕ, ◌+◌, Bool, true, Option, List, [], ◌∷◌, length, map, refl, sym, ap, subst, arith}
use Rattle.std.specs.List.{range_with_len}
use Rattle.std.proofs.lemmas.List.{length-map}
use Rattle.dl_io.specs.House.{HouseState}
use Rattle.dl_theory.specs.Lists.{TheoryLists}
use Rattle.dl_turn.specs.History.{AllBelow}
use Rattle.dl_calls.specs.declared.entry.Entry.{Entry}
use Rattle.dl_session.specs.declared.end.End.{End}
use Rattle.dl_sessions.specs.Served.{Told, IsServed, AllAt, AreServed}
use Rattle.dl_io.specs.declared.house.OpenStop.TheVariants.{Memory}
use Rattle.dl_words.specs.Names.{output_name, output_names, is_among}
use Rattle.dl_journal.specs.Streams.{MayOpen, opened_all, settled_all, AreFresh, AreOpen, Undoes}
use Rattle.dl_words.proofs.Names.{or_left, among_take}
use Rattle.dl_journal.proofs.Opened.{opened_open_in, opened_open_out, fresh_open}
use Rattle.dl_journal.proofs.Undone.{map_take, undone_all}
use Rattle.dl_files.specs.declared.status.Status.{Status}
use Rattle.dl_serving.specs.Serving.{Closed, last_told, closed_ends, AreClosed, ClosesHall, ServesHall, HasOpened, Sessions}

module _ {A B : Type 0} (before : A → Told) (after : B → Told) (end : B → End) where
  abbrev pub closed_of : B → Closed
  closed_of s = (after s, end s)

  pub last_is : (sessions : List B) → last_told (map closed_of sessions) ≡ map after sessions
  last_is [] = refl
  last_is (s ∷ more) = ap (λ (l : List Told). after s ∷ l) (last_is more)

  pub ends_are : (sessions : List B) → closed_ends (map closed_of sessions) ≡ map end sessions
  ends_are [] = refl
  ends_are (s ∷ more) = ap (λ (l : List End). end s ∷ l) (ends_are more)

  at_each : (T : TheoryLists) (history : List Entry) (k : ℕ) (streams : List A) (sessions : List B)
      → AllAt (λ seat s session. IsServed T history seat (before s) (after session) (end session)) k streams sessions
      → AllAt (λ seat t c. IsServed T history seat t c.0 c.1) k (map before streams) (map closed_of sessions)
  at_each T history k [] [] all = tt
  at_each T history k [] (y ∷ ys) all = absurd all
  at_each T history k (x ∷ xs) [] all = absurd all
  at_each T history k (x ∷ xs) (y ∷ ys) all = (all.0, at_each T history (k + 1) xs ys all.1)

  pub are_closed : (T : TheoryLists) (streams : List A) (history : List Entry) (sessions : List B) → AreServed before after end T streams history sessions
      → AreClosed T (map before streams) history (map closed_of sessions)
  are_closed T streams history sessions served = record {
    legal = served.legal;
    enrolled = served.enrolled ∙ ap (range_with_len 0) (sym (length-map sessions closed_of));
    below = subst (λ (n : ℕ). AllBelow (λ e. e.seat) n history) (sym (length-map sessions closed_of)) served.below;
    each = at_each T history 0 streams sessions served.each;
  }

  -- the streams keep their names
  pub served_open : (house : HouseState) (names : List (List ℕ)) (T : TheoryLists) (history : List Entry) (k : ℕ) (streams : List A) (sessions : List B)
      → AllAt (λ seat s session. IsServed T history seat (before s) (after session) (end session)) k streams sessions → AreOpen house names (map before streams)
      → AreOpen house names (map after sessions)
  served_open house names T history k [] [] all are = tt
  served_open house names T history k [] (y ∷ ys) all are = absurd all
  served_open house names T history k (x ∷ xs) [] all are = absurd all
  served_open house [] T history k (x ∷ xs) (y ∷ ys) all are = absurd are
  served_open house (name ∷ names) T history k (x ∷ xs) (y ∷ ys) all are = (
    record {
      input = are.0.input;
      output = are.0.output;
      source_name = all.0.source_name ∙ are.0.source_name;
      sink_name = all.0.sink_name ∙ are.0.sink_name;
    },
    served_open house names T history (k + 1) xs ys all.1 are.1,
  )

  pub as_many : (T : TheoryLists) (history : List Entry) (k : ℕ) (streams : List A) (sessions : List B)
      → AllAt (λ seat s session. IsServed T history seat (before s) (after session) (end session)) k streams sessions → length sessions ≡ length streams
  as_many T history k [] [] all = refl
  as_many T history k [] (y ∷ ys) all = absurd all
  as_many T history k (x ∷ xs) [] all = absurd all
  as_many T history k (x ∷ xs) (y ∷ ys) all = let more = as_many T history (k + 1) xs ys all.1 in omega (arith, more)

-- all that was opened can be settled
pub opened_open : (tells : Bool) (old : HouseState) (names : List (List ℕ)) (ts : List Told) → AreFresh tells old names ts → AreOpen (opened_all old names) names ts
opened_open tells old names ts fresh =
    fresh_open tells old (opened_all old names) names ts
    (λ other e. opened_open_in old names other ∙ or_left (is_among other names) (old.open_in other) (among_take names (length ts) other e))
    (λ other e. opened_open_out old names other
    ∙ or_left (is_among other (output_names names)) (old.open_out other)
    (among_take (output_names names) (length ts) other (subst (λ (l : List (List ℕ)). is_among other l ≡ true) (map_take output_name names (length ts)) e)))
    fresh

-- From a hall that was served, or was not, to its sessions.
module _ (tells : Bool) (old mid new : HouseState) (T start : TheoryLists) (names opened : List (List ℕ)) (ts : List Told) (es : List End) (room : ℕ) (handed : Option (List ℕ)) (faults : ℕ) (ends : Status)
    (may : MayOpen old names) (same : start ≡ T) (opens : HasOpened tells old mid names opened ts es room) where
  pub hall_open : AreOpen mid opened ts
  hall_open =
      subst (λ (l : List (List ℕ)). AreOpen mid l ts) (sym opens.same) (subst (λ (h : HouseState). AreOpen h names ts) (sym opens.house) (opened_open tells old names ts opens.fresh))

  pub sessions_from : ServesHall tells mid new start opened ts handed faults ends → Sessions tells old new T names handed faults ends
  sessions_from (inl closes) = inl (record {
    streams = ts;
    fresh = opens.fresh;
    count = opens.count;
    closes = subst (λ (h : HouseState). ClosesHall tells h new T names ts handed faults ends) opens.house
        (subst (λ (l : List (List ℕ)). ClosesHall tells mid new T l ts handed faults ends) opens.same
        (subst (λ (U : TheoryLists). ClosesHall tells mid new U opened ts handed faults ends) same closes));
  })
  sessions_from (inr leaves) =
      let house : new ≡ settled_all (opened_all old names) names ts = leaves.house ∙ ap (λ (l : List (List ℕ)). settled_all mid l ts) opens.same
      ∙ ap (λ (h : HouseState). settled_all h names ts) opens.house in
      inr (record {
        why = Memory;
        undoes = subst (λ (h : HouseState). Undoes tells old h names Memory) (sym house) (undone_all tells old names may ts opens.count opens.fresh);
        same = leaves.memory;
        nothing = leaves.nothing;
        no_fault = leaves.no_fault;
      })
