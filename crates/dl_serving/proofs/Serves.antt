-- From what the code did to a house, to what the clause of the program says of sessions.
use Rattle.std.proofs.Common.{◌≡◌, ◌∙◌, ◌⊎◌, ◌≤◌, ◌+◌, ℕ, inl, inr, List, [], ◌∷◌, ◌++◌, Bool, true, false, Option, Some, length, refl, sym, ap, subst, arith, cond, append_assoc, append-nil, if◌then◌else◌}
use Rattle.std.specs.List.{AllZip, range_with_len}
use Rattle.std.specs.Io.KnownBytes.{append_known}
use Rattle.std.specs.Str.{bytes_eq}
use Rattle.std.proofs.lemmas.List.{length-map}
use Rattle.dl_io.specs.Outside.{Rose}
use Rattle.dl_io.specs.House.{HouseState, standard, settled_out}
use Rattle.dl_io.specs.declared.house.OpenStop.{OpenStop}
use Rattle.dl_io.specs.declared.house.OpenStop.TheVariants as open_stop
use Rattle.dl_theory.specs.Lists.{TheoryLists}
use Rattle.dl_turn.specs.History.{AllBelow}
use Rattle.dl_lines.specs.declared.reader.TheConstants.{MOST_BYTES}
use Rattle.dl_session.specs.declared.end.End.{End}
use Rattle.dl_sessions.specs.Served.{Told}
use Rattle.dl_journal.specs.Journal.{served_text}
use Rattle.dl_words.specs.Names.{output_names, is_among, GrowsBy}
use Rattle.dl_journal.specs.Streams.{MayOpen, opened_all, settled_all, AreFresh, begun, HasStopCause}
use Rattle.dl_journal.proofs.Opened.{Opens, opens}
use Rattle.dl_journal.proofs.Settled.{IsSettled, KeepsAsked, settled_asked, settled_other, settled_other_out, are_settled}
use Rattle.dl_journal.proofs.Undone.{all_in, all_out}
use Rattle.dl_files.specs.declared.status.Status.{Status}
use Rattle.dl_files.specs.declared.status.Status.TheVariants as status
use Rattle.dl_serving.specs.Serve.{Account, AreServed, ends_status, Prints, HasServed, HasFailed, HasLacked, HasStopped, Serves, IsAccountOf}
use Rattle.dl_serving.specs.Serving.{Closed, last_told, closed_ends, PrintsTo, ClosesHall, NoSessions, Sessions, stop_status}
use Rattle.dl_files.specs.Reading.{KeepsCounts, ReadsOnly, Settles}
use Rattle.dl_files.specs.Theories.{limit, IsTheoryFile}
use Rattle.dl_files.specs.Whole.{TakesAtMost}
use Rattle.dl_lines.proofs.Calls.{prepend_known-none}
use Rattle.dl_words.proofs.Names.{same_name}
use Rattle.dl_words.proofs.Naming.{AreServable, standard_apart}
use Rattle.dl_serving.proofs.Accounts.{Each, each, accounts, accounts_count, accounts_ends, accounts_sessions, accounts_told, never_less, all_done, one_failed, takes_of}

-- the names can be opened where only standard output is open
pub may_open : (house : HouseState) (theory : List ℕ) (names : List (List ℕ)) → AreServable theory names → ((name : List ℕ) → house.open_in name ≡ false)
    → ((name : List ℕ) → bytes_eq standard name ≡ false → house.open_out name ≡ false) → MayOpen house names
may_open house theory names servable shut only = record {
  distinct = servable.distinct;
  apart = servable.apart;
  inputs = λ name e. shut name;
  outputs = λ name e. by name (bytes_eq standard name) refl e;
}
  where
    by : (name : List ℕ) (b : Bool) → bytes_eq standard name ≡ b → is_among name (output_names names) ≡ true → house.open_out name ≡ false
    by name false apart e = only name apart
    by name true same e =
        let is : standard ≡ name = same_name standard name same in
        let among : is_among standard (output_names names) ≡ true = subst (λ (n : List ℕ). is_among n (output_names names) ≡ true) (sym is) e in
        absurd (cc (among, standard_apart names))

-- more may be taken
takes_within : (a b : ℕ) (old new : Option (List ℕ)) → a ≤ b → TakesAtMost a old new → TakesAtMost b old new
takes_within a b old new less takes = (takes.0, takes.1, omega (arith, less, takes.2))

-- how many bytes may be read under a name: of a session's input, and of another file
abbrev pub session_most : List (List ℕ) → List ℕ → ℕ
session_most names name = if is_among name names then MOST_BYTES else limit + 1

fresh_count : (tells : Bool) (house : HouseState) (names : List (List ℕ)) (ts : List Told) → AreFresh tells house names ts → length ts ≤ length names
fresh_count tells house names [] fresh = omega arith
fresh_count tells house [] (t ∷ ts) fresh = absurd fresh
fresh_count tells house (n ∷ names) (t ∷ ts) fresh = let more = fresh_count tells house names ts fresh.1 in omega (arith, more)

module _ (tells : Bool) (old mid new : HouseState) (theory : List ℕ) (names : List (List ℕ)) (T : TheoryLists) (handed : Option (List ℕ)) (faults : ℕ) (ends : Status)
    (reads : ReadsOnly old mid (theory ∷ [])) (asked : mid.asked_in ≡ old.asked_in ++ theory ∷ []) (quiet : mid.faults ≡ old.faults) (counts : KeepsCounts old mid)
    (loads : tells ≡ true → (bytes : List ℕ) × (old.holds theory ≡ Some bytes) × IsTheoryFile bytes T) (servable : AreServable theory names) (may : MayOpen mid names) where
  abbrev final : HouseState
  final = settled_out new standard handed faults

  abbrev full : HouseState
  full = opened_all mid names

  abbrev o : Opens mid full names
  o = opens mid names

  -- the sessions were served
  module _ (streams : List Told) (fresh : AreFresh tells mid names streams) (closes : ClosesHall tells full new T names streams handed faults ends) (count : length closes.sessions ≡ length names) where
    abbrev all : Each T closes.history 0 streams closes.sessions
    all = each T closes.history tells mid 0 names streams closes.sessions fresh closes.served.each

    abbrev them : List Account
    them = accounts T closes.history 0 streams closes.sessions all

    abbrev done : List Told
    done = last_told closes.sessions

    abbrev result : HouseState
    result = settled_all full names done

    abbrev k : KeepsAsked full result
    k = settled_asked full names done

    as_many : length done ≡ length names
    as_many = length-map closes.sessions (λ (c : Closed). c.0) ∙ count

    asked_in : new.asked_in ≡ old.asked_in ++ theory ∷ names
    asked_in = ap (λ (h : HouseState). h.asked_in) closes.house ∙ k.asked_in ∙ o.asked_in ∙ ap (λ (l : List (List ℕ)). l ++ names) asked ∙ append_assoc old.asked_in (theory ∷ []) names

    asked_out : new.asked_out ≡ old.asked_out ++ output_names names
    asked_out = ap (λ (h : HouseState). h.asked_out) closes.house ∙ k.asked_out ∙ o.asked_out ∙ ap (λ (l : List (List ℕ)). l ++ output_names names) reads.asked_out

    told : AllZip (IsAccountOf tells old final) names them
    told =
        accounts_told T closes.history tells old mid full new handed faults reads.holds (o.share ∙ counts.share) (o.share_out ∙ counts.share_out) 0 names streams closes.sessions all
        (standard_apart names) fresh
        (subst (λ (h : HouseState). AllZip (IsSettled full h) names done) (sym closes.house) (are_settled full names done may.distinct as_many))

    served : AreServed T closes.history them
    served = record {
      legal = closes.served.legal;
      enrolled = closes.served.enrolled ∙ ap (range_with_len 0) (sym (accounts_count T closes.history 0 streams closes.sessions all));
      seats = subst (λ (n : ℕ). AllBelow (λ e. e.seat) n closes.history) (sym (accounts_count T closes.history 0 streams closes.sessions all)) closes.served.below;
      sessions = accounts_sessions T closes.history 0 streams closes.sessions all;
      spelled = closes.spelled;
    }

    abbrev text : List End → List ℕ
    text es = served_text closes.history es

    share_same : new.share_out standard ≡ old.share_out standard
    share_same =
        ap (λ (h : HouseState). h.share_out standard) closes.house ∙ (settled_other_out full names done standard (standard_apart names)).1
        ∙ ap (λ (f : List ℕ → ℕ). f standard) (o.share_out ∙ counts.share_out)

    printed : (es : List End) → PrintsTo tells handed faults (text es) (ends_status es) ends → Prints tells old final (text es) (ends_status es) ends
    printed es (inl (none, got, same)) = inl (record {
      no_fault = omega (arith, none, share_same);
      wrote = λ (is : tells ≡ true). got ∙ ap (λ (b : Bool). append_known (begun b) (text es)) is;
      same = same;
    })
    printed es (inr (rose, cut, fault)) = inr (record {
      rose = omega (arith, rose, share_same);
      wrote = cut;
      fault = fault;
    })

    total : new.faults ≡ result.faults
    total = ap (λ (h : HouseState). h.faults) closes.house

    started : full.faults ≡ old.faults
    started = o.faults ∙ quiet

    calm : PrintsTo tells handed faults (text (closed_ends closes.sessions)) (ends_status (closed_ends closes.sessions)) ends → ends ≡ status.Done → final.faults ≡ old.faults
    calm (inl (none, got, same)) is =
        let before = all_done T closes.history tells mid full 0 names streams closes.sessions all fresh (sym same ∙ is) in
        omega (arith, none, before, total, started)
    calm (inr (rose, cut, fault)) is = absurd (cc (fault, is))

    risen : PrintsTo tells handed faults (text (closed_ends closes.sessions)) (ends_status (closed_ends closes.sessions)) ends → ends ≡ status.Fault → Rose old.faults final.faults
    risen (inl (none, got, same)) is =
        let before = one_failed T closes.history tells mid full 0 names streams closes.sessions all fresh count (sym same ∙ is) in
        omega (arith, none, before, total, started)
    risen (inr (rose, cut, fault)) is =
        let less = never_less T closes.history tells mid full names done in
        omega (arith, rose, less, total, started)

    has_served : HasServed tells old final theory names (output_names names) ends
    has_served = record {
      T = T;
      history = closes.history;
      accounts = them;
      asked_in = asked_in;
      asked_out = asked_out;
      loads = loads;
      served = served;
      told = told;
      printed = subst (λ (es : List End). Prints tells old final (text es) (ends_status es) ends) (sym (accounts_ends T closes.history 0 streams closes.sessions all))
          (printed (closed_ends closes.sessions) closes.printed);
      calm = calm closes.printed;
      rose = risen closes.printed;
    }

    within_at : (name : List ℕ) (b : Bool) → is_among name names ≡ b → (new.left name ≡ old.left name) ⊎ TakesAtMost (if b then MOST_BYTES else limit + 1) (old.holds name) (new.left name)
    within_at name true among = inr (takes_of tells old final names them name told among)
    within_at name false other =
        let kept : new.left name ≡ mid.left name = ap (λ (h : HouseState). h.left name) closes.house ∙ (settled_other full names done name other).0 ∙ ap (λ (f : List ℕ → Option (List ℕ)). f name) o.left in
        elim (reads.within name) as (λ _. (new.left name ≡ old.left name) ⊎ TakesAtMost (limit + 1) (old.holds name) (new.left name)) [
          | inl same ↦ inl (kept ∙ same)
          | inr takes ↦ inr (subst (λ (l : Option (List ℕ)). TakesAtMost (limit + 1) (old.holds name) l) (sym kept) takes)
        ]

    has_worked : Settles old new (session_most names) (theory ∷ names) (output_names names)
    has_worked = record {
      within = λ name. within_at name (is_among name names) refl;
      open_in = λ name. ap (λ (h : HouseState). h.open_in name) closes.house ∙ all_in tells mid names may done as_many name ∙ ap (λ (f : List ℕ → Bool). f name) reads.open_in;
      open_out = λ name. ap (λ (h : HouseState). h.open_out name) closes.house ∙ all_out tells mid names may done as_many name ∙ ap (λ (f : List ℕ → Bool). f name) reads.open_out;
      asked_in = (theory ∷ names, [], sym (append-nil (theory ∷ names)), asked_in);
      asked_out = (output_names names, [], sym (append-nil (output_names names)), asked_out);
    }

  -- no session began
  module _ (no : NoSessions tells mid new names handed faults ends) where
    wrote_at : tells ≡ true → (name : List ℕ) (b : Bool) → (cond b handed (new.wrote name) ≡ old.wrote name) ⊎ (cond b handed (new.wrote name) ≡ Some [])
    wrote_at is name true = inr (no.nothing ∙ ap begun is)
    wrote_at is name false = elim (no.undoes.wrote name) as (λ _. (new.wrote name ≡ old.wrote name) ⊎ (new.wrote name ≡ Some [])) [
      | inl same ↦ inl (same ∙ ap (λ (f : List ℕ → Option (List ℕ)). f name) reads.wrote)
      | inr none ↦ inr (none ∙ ap begun is)
    ]

    cause_by : (why : OpenStop) → HasStopCause mid new why → ends ≡ stop_status why → HasFailed old final theory ends ⊎ HasLacked old final ends
    cause_by open_stop.Failed (own, rose) same = inl (record {
      fault = same;
      rose = omega (arith, rose, quiet, no.no_fault);
      cause = inl (subst (λ (n : ℕ). Rose n new.own) counts.own own);
    })
    cause_by open_stop.Memory kept same = inr (record { memory = same; no_fault = omega (arith, kept, quiet, no.no_fault) })

    has_stopped : HasStopped tells old final theory ends
    has_stopped = record {
      nothing = λ (is : tells ≡ true) name. wrote_at is name (bytes_eq standard name);
      cause = cause_by no.why no.undoes.cause no.same;
    }

    left_at : (name : List ℕ) (b : Bool) → is_among name names ≡ b → (new.left name ≡ old.left name) ⊎ TakesAtMost (if b then MOST_BYTES else limit + 1) (old.holds name) (new.left name)
    left_at name b e = by (no.undoes.left name) (reads.within name) b e
      where
        by : ((new.left name ≡ mid.left name) ⊎ ((is_among name names ≡ true) × (new.left name ≡ mid.holds name)))
            → ((mid.left name ≡ old.left name) ⊎ TakesAtMost (limit + 1) (old.holds name) (mid.left name))
            → (b : Bool) → is_among name names ≡ b → (new.left name ≡ old.left name) ⊎ TakesAtMost (if b then MOST_BYTES else limit + 1) (old.holds name) (new.left name)
        by (inl kept) (inl same) b e = inl (kept ∙ same)
        by (inl kept) (inr takes) true e = inr (takes_within (limit + 1) MOST_BYTES (old.holds name) (new.left name) (omega arith)
            (subst (λ (l : Option (List ℕ)). TakesAtMost (limit + 1) (old.holds name) l) (sym kept) takes))
        by (inl kept) (inr takes) false e = inr (subst (λ (l : Option (List ℕ)). TakesAtMost (limit + 1) (old.holds name) l) (sym kept) takes)
        by (inr (among, whole)) before true e =
            inr ([], sym (ap (λ (f : List ℕ → Option (List ℕ)). f name) reads.holds) ∙ sym whole ∙ prepend_known-none (new.left name), omega arith)
        by (inr (among, whole)) before false e = absurd (cc (among, e))

    has_undone : Settles old new (session_most names) (theory ∷ names) (output_names names)
    has_undone =
        let asked_more = no.undoes.asked_in in
        record {
          within = λ name. left_at name (is_among name names) refl;
          open_in = λ name. no.undoes.open_in name ∙ ap (λ (f : List ℕ → Bool). f name) reads.open_in;
          open_out = λ name. no.undoes.open_out name ∙ ap (λ (f : List ℕ → Bool). f name) reads.open_out;
          asked_in = (
            theory ∷ asked_more.0,
            asked_more.1,
            ap (λ (l : List (List ℕ)). theory ∷ l) asked_more.2,
            asked_more.3 ∙ ap (λ (l : List (List ℕ)). l ++ asked_more.0) asked ∙ append_assoc old.asked_in (theory ∷ []) asked_more.0,
          );
          asked_out = subst (λ (l : List (List ℕ)). GrowsBy l new.asked_out (output_names names)) reads.asked_out no.undoes.asked_out;
        }

  same_count : (streams : List Told) → AreFresh tells mid names streams → (closes : ClosesHall tells full new T names streams handed faults ends) → length streams ≡ length names
      → length closes.sessions ≡ length names
  same_count streams fresh closes count = by 0 streams closes.sessions (each T closes.history tells mid 0 names streams closes.sessions fresh closes.served.each) ∙ count
    where
      by : (j : ℕ) (ts : List Told) (cs : List Closed) → Each T closes.history j ts cs → length cs ≡ length ts
      by j [] [] each = refl
      by j [] (c ∷ cs) each = absurd each
      by j (t ∷ ts) [] each = absurd each
      by j (t ∷ ts) (c ∷ cs) each = let more = by (j + 1) ts cs each.1 in omega (arith, more)

  pub serves : Sessions tells mid new T names handed faults ends → Serves tells old final theory names (output_names names) ends
  serves (inl has) = inl (has_served has.streams has.fresh has.closes (same_count has.streams has.fresh has.closes has.count))
  serves (inr none) = inr (has_stopped none)

  pub works : Sessions tells mid new T names handed faults ends → Settles old new (session_most names) (theory ∷ names) (output_names names)
  works (inl has) = has_worked has.streams has.fresh has.closes (same_count has.streams has.fresh has.closes has.count)
  works (inr none) = has_undone none
