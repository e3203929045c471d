-- From sessions that were served to what is said of them.
use Rattle.std.proofs.Common.{◌≡◌, ◌∙◌, ◌≤◌, ◌+◌, ℕ, List, [], ◌∷◌, Bool, true, false, Option, length, refl, sym, ap, subst, arith, cond}
use Rattle.std.specs.Prelude.{◌||◌}
use Rattle.std.specs.List.{AllZip}
use Rattle.std.specs.Io.KnownBytes.{prepend_known, append_known}
use Rattle.std.specs.Str.{bytes_eq}
use Rattle.dl_io.specs.Outside.{Rose, raised}
use Rattle.dl_io.specs.House.{HouseState, standard, settled_out}
use Rattle.dl_theory.specs.Lists.{TheoryLists}
use Rattle.dl_calls.specs.declared.entry.Entry.{Entry}
use Rattle.dl_lines.specs.declared.reader.TheConstants.{MOST_BYTES}
use Rattle.dl_session.specs.declared.end.End.{End}
use Rattle.dl_session.specs.declared.end.End.TheVariants.{Done, ReadFault, WriteFault, Spent}
use Rattle.dl_session.specs.Ends.{HasCause}
use Rattle.dl_sessions.specs.Served.{Told, IsSessionIn, IsServed, AllAt}
use Rattle.dl_words.specs.Names.{output_name, output_names, is_among}
use Rattle.dl_journal.specs.Streams.{settled_all, AreFresh, begun}
use Rattle.dl_words.proofs.Names.{same_name, bytes_eq-sym, or_false}
use Rattle.dl_journal.proofs.Settled.{IsSettled}
use Rattle.dl_files.specs.declared.status.Status.TheVariants as status
use Rattle.dl_serving.specs.Serve.{Account, AreSessionsOf, IsAccountOf, ends_status, ends_of}
use Rattle.dl_serving.specs.Serving.{Closed, last_told, closed_ends}
use Rattle.dl_files.specs.Whole.{TakesAtMost}

-- the counts of streams that began at 0, added to others
cause_added : (end : End) (a b r w : ℕ) → HasCause 0 r 0 w end → HasCause a (raised a r) b (raised b w) end
cause_added Done a b r w h = (omega (arith, h.0), omega (arith, h.1))
cause_added ReadFault a b r w h = (omega (arith, h.0), omega (arith, h.1))
cause_added WriteFault a b r w h = (omega (arith, h.0), omega (arith, h.1))
cause_added Spent a b r w h = (omega (arith, h.0), omega (arith, h.1))

module _ (T : TheoryLists) (history : List Entry) where
  -- a session by what its sink handed on
  pub record IsHandedOn (seat : ℕ) (t : Told) (c : Closed) : Type 0 where
    pub session : IsSessionIn T history seat t.rest c.0.rest t.handed c.0.handed c.1
    pub cause : HasCause t.read_faults c.0.read_faults t.write_faults c.0.write_faults c.1

  abbrev pub Each : ℕ → List Told → List Closed → Type 0
  Each k streams sessions = AllAt IsHandedOn k streams sessions

  -- nothing is held back at first
  pub each : (tells : Bool) (house : HouseState) (k : ℕ) (names : List (List ℕ)) (streams : List Told) (sessions : List Closed) → AreFresh tells house names streams
      → AllAt (λ seat t c. IsServed T history seat t c.0 c.1) k streams sessions → Each k streams sessions
  each tells house k names [] [] fresh all = tt
  each tells house k names [] (c ∷ cs) fresh all = absurd all
  each tells house k names (t ∷ ts) [] fresh all = absurd all
  each tells house k [] (t ∷ ts) (c ∷ cs) fresh all = absurd fresh
  each tells house k (n ∷ ns) (t ∷ ts) (c ∷ cs) fresh all =
      (record { session = all.0.handed (fresh.0.handed ∙ sym fresh.0.written); cause = all.0.cause }, each tells house (k + 1) ns ts cs fresh.1 all.1)

  abbrev pub accounts : (k : ℕ) (streams : List Told) (sessions : List Closed) → Each k streams sessions → List Account
  accounts k [] sessions all = []
  accounts k (t ∷ ts) [] all = []
  accounts k (t ∷ ts) (c ∷ cs) all = record { taken = all.0.session.taken; left = c.0.rest; output = all.0.session.written; end = c.1 } ∷ accounts (k + 1) ts cs all.1

  pub accounts_count : (k : ℕ) (streams : List Told) (sessions : List Closed) (all : Each k streams sessions) → length (accounts k streams sessions all) ≡ length sessions
  accounts_count k [] [] all = refl
  accounts_count k [] (c ∷ cs) all = absurd all
  accounts_count k (t ∷ ts) [] all = absurd all
  accounts_count k (t ∷ ts) (c ∷ cs) all = let more = accounts_count (k + 1) ts cs all.1 in omega (arith, more)

  pub accounts_ends : (k : ℕ) (streams : List Told) (sessions : List Closed) (all : Each k streams sessions) → ends_of (accounts k streams sessions all) ≡ closed_ends sessions
  accounts_ends k [] [] all = refl
  accounts_ends k [] (c ∷ cs) all = absurd all
  accounts_ends k (t ∷ ts) [] all = absurd all
  accounts_ends k (t ∷ ts) (c ∷ cs) all = ap (λ (l : List End). c.1 ∷ l) (accounts_ends (k + 1) ts cs all.1)

  pub accounts_sessions : (k : ℕ) (streams : List Told) (sessions : List Closed) (all : Each k streams sessions) → AreSessionsOf T history k (accounts k streams sessions all)
  accounts_sessions k [] [] all = tt
  accounts_sessions k [] (c ∷ cs) all = absurd all
  accounts_sessions k (t ∷ ts) [] all = absurd all
  accounts_sessions k (t ∷ ts) (c ∷ cs) all = (record { entries = all.0.session.entries; own = all.0.session.own; ends = all.0.session.ends }, accounts_sessions (k + 1) ts cs all.1)

  -- What the house says of them, once standard output was settled too.
  module _ (tells : Bool) (old mid opened new : HouseState) (handed : Option (List ℕ)) (faults : ℕ) (holds : mid.holds ≡ old.holds) (share : opened.share ≡ old.share) (share_out : opened.share_out ≡ old.share_out) where
    abbrev final : HouseState
    final = settled_out new standard handed faults

    pub accounts_told : (k : ℕ) (names : List (List ℕ)) (streams : List Told) (sessions : List Closed) (all : Each k streams sessions) → is_among standard (output_names names) ≡ false
        → AreFresh tells mid names streams → AllZip (IsSettled opened new) names (last_told sessions) → AllZip (IsAccountOf tells old final) names (accounts k streams sessions all)
    accounts_told k [] [] [] all none fresh settled = tt
    accounts_told k [] [] (c ∷ cs) all none fresh settled = absurd all
    accounts_told k [] (t ∷ ts) sessions all none fresh settled = absurd fresh
    accounts_told k (n ∷ ns) [] [] all none fresh settled = absurd settled
    accounts_told k (n ∷ ns) [] (c ∷ cs) all none fresh settled = absurd all
    accounts_told k (n ∷ ns) (t ∷ ts) [] all none fresh settled = absurd all
    accounts_told k (n ∷ ns) (t ∷ ts) (c ∷ cs) all none fresh settled =
        let apart = or_false (bytes_eq (output_name n) standard) (is_among standard (output_names ns)) none in
        let other : bytes_eq standard (output_name n) ≡ false = bytes_eq-sym standard (output_name n) ∙ apart.0 in
        let one = all.0 in
        let is = settled.0 in
        let wrote : final.wrote (output_name n) ≡ c.0.handed = ap (λ (b : Bool). cond b handed (new.wrote (output_name n))) other ∙ is.wrote in
        let read : final.share n ≡ raised (old.share n) c.0.read_faults = is.share ∙ ap (λ (f : List ℕ → ℕ). raised (f n) c.0.read_faults) share in
        let written : final.share_out (output_name n) ≡ raised (old.share_out (output_name n)) c.0.write_faults =
        ap (λ (b : Bool). cond b (raised (new.share_out standard) faults) (new.share_out (output_name n))) other ∙ is.share_out
        ∙ ap (λ (f : List ℕ → ℕ). raised (f (output_name n)) c.0.write_faults) share_out in
        let zero : HasCause 0 c.0.read_faults 0 c.0.write_faults c.1 = subst (λ (a : ℕ). HasCause a c.0.read_faults 0 c.0.write_faults c.1) fresh.0.read_faults
        (subst (λ (b : ℕ). HasCause t.read_faults c.0.read_faults b c.0.write_faults c.1) fresh.0.write_faults one.cause) in (
          record {
            input = sym (ap (λ (f : List ℕ → Option (List ℕ)). f n) holds) ∙ sym fresh.0.rest ∙ one.session.took;
            left = is.left;
            within = one.session.within;
            output = λ (told : tells ≡ true).
                wrote ∙ one.session.wrote ∙ ap (λ (w : Option (List ℕ)). append_known w one.session.written) (fresh.0.handed ∙ ap begun told);
            cause = subst (λ (r : ℕ). HasCause (old.share n) r (old.share_out (output_name n)) (final.share_out (output_name n)) c.1) (sym read)
                (subst (λ (w : ℕ). HasCause (old.share n) (raised (old.share n) c.0.read_faults) (old.share_out (output_name n)) w c.1) (sym written)
                (cause_added c.1 (old.share n) (old.share_out (output_name n)) c.0.read_faults c.0.write_faults zero));
          },
          accounts_told (k + 1) ns ts cs all.1 apart.1 fresh.1 settled.1,
        )

  -- The count of the house.
  module _ (tells : Bool) (mid house : HouseState) where
    pub never_less : (names : List (List ℕ)) (ts : List Told) → house.faults ≤ (settled_all house names ts).faults
    never_less names [] = omega arith
    never_less [] (t ∷ ts) = omega arith
    never_less (n ∷ ns) (t ∷ ts) = let less = never_less ns ts in omega (arith, less)

    pub all_done : (k : ℕ) (names : List (List ℕ)) (streams : List Told) (sessions : List Closed) → Each k streams sessions → AreFresh tells mid names streams
        → ends_status (closed_ends sessions) ≡ status.Done → (settled_all house names (last_told sessions)).faults ≡ house.faults
    all_done k names streams [] all fresh done = refl
    all_done k [] streams (c ∷ cs) all fresh done = refl
    all_done k (n ∷ ns) [] (c ∷ cs) all fresh done = absurd all
    all_done k (n ∷ ns) (t ∷ ts) ((u, Done) ∷ cs) all fresh done =
        let before = all_done (k + 1) ns ts cs all.1 fresh.1 done in
        omega (arith, before, all.0.cause.0, all.0.cause.1, fresh.0.read_faults, fresh.0.write_faults)
    all_done k (n ∷ ns) (t ∷ ts) ((u, ReadFault) ∷ cs) all fresh done = absurd (cc)
    all_done k (n ∷ ns) (t ∷ ts) ((u, WriteFault) ∷ cs) all fresh done = absurd (cc)
    all_done k (n ∷ ns) (t ∷ ts) ((u, Spent) ∷ cs) all fresh done = absurd (cc)

    pub one_failed : (k : ℕ) (names : List (List ℕ)) (streams : List Told) (sessions : List Closed) → Each k streams sessions → AreFresh tells mid names streams
        → length sessions ≡ length names → ends_status (closed_ends sessions) ≡ status.Fault → Rose house.faults (settled_all house names (last_told sessions)).faults
    one_failed k names streams [] all fresh count failed = absurd (cc)
    one_failed k [] streams (c ∷ cs) all fresh count failed = absurd (omega (arith, count))
    one_failed k (n ∷ ns) [] (c ∷ cs) all fresh count failed = absurd all
    one_failed k (n ∷ ns) (t ∷ ts) ((u, Done) ∷ cs) all fresh count failed =
        let before = one_failed (k + 1) ns ts cs all.1 fresh.1 (omega (arith, count)) failed in omega (arith, before)
    one_failed k (n ∷ ns) (t ∷ ts) ((u, ReadFault) ∷ cs) all fresh count failed =
        let less = never_less ns (last_told cs) in omega (arith, less, all.0.cause.0, fresh.0.read_faults)
    one_failed k (n ∷ ns) (t ∷ ts) ((u, WriteFault) ∷ cs) all fresh count failed =
        let less = never_less ns (last_told cs) in omega (arith, less, all.0.cause.1, fresh.0.write_faults)
    one_failed k (n ∷ ns) (t ∷ ts) ((u, Spent) ∷ cs) all fresh count failed = absurd (cc)

-- no more than the limit was taken of a session's input
pub takes_of : (tells : Bool) (old new : HouseState) (names : List (List ℕ)) (them : List Account) (name : List ℕ) → AllZip (IsAccountOf tells old new) names them → is_among name names ≡ true
    → TakesAtMost MOST_BYTES (old.holds name) (new.left name)
takes_of tells old new [] them name all e = absurd (cc)
takes_of tells old new (n ∷ ns) [] name all e = absurd all
takes_of tells old new (n ∷ ns) (a ∷ more) name all e = by (bytes_eq n name) refl (takes_of tells old new ns more name all.1) e
  where
    by : (b : Bool) → bytes_eq n name ≡ b → (is_among name ns ≡ true → TakesAtMost MOST_BYTES (old.holds name) (new.left name)) → (b || is_among name ns) ≡ true
        → TakesAtMost MOST_BYTES (old.holds name) (new.left name)
    by true same later h =
        let here : TakesAtMost MOST_BYTES (old.holds n) (new.left n) = (a.taken, all.0.input ∙ ap (prepend_known a.taken) (sym all.0.left), all.0.within) in
        subst (λ (m : List ℕ). TakesAtMost MOST_BYTES (old.holds m) (new.left m)) (same_name n name same) here
    by false other later h = later h
