-- What is left of names that could not all be opened.
use Rattle.std.proofs.Common.{◌≡◌, ◌∙◌, ◌⊎◌, ◌≤◌, inl, inr, ℕ, zero, suc, List, Option, [], ◌∷◌, ◌++◌, Bool, true, false, arith, refl, sym, ap, subst, cond, length, take, drop, Some, append_assoc, append-nil, take-append-drop, map}
use Rattle.std.specs.Prelude.{◌||◌, slice_get}
use Rattle.std.specs.Str.{bytes_eq}
use Rattle.std.specs.Option.{option_map}
use Rattle.std.proofs.lemmas.List.{take_all}
use Rattle.std.proofs.lemmas.Option.{slice_get-map}
use Rattle.dl_io.specs.Outside.{Rose}
use Rattle.dl_io.specs.House.{HouseState}
use Rattle.dl_io.specs.declared.house.OpenStop.{OpenStop}
use Rattle.dl_io.specs.declared.house.OpenStop.TheVariants.{Failed, Memory}
use Rattle.dl_words.specs.Names.{output_name, output_names, is_among, GrowsBy}
use Rattle.dl_sessions.specs.Served.{Told}
use Rattle.dl_journal.specs.Streams.{MayOpen, opened_pair, opened_all, settled_all, IsFresh, AreFresh, AreOpen, begun, HasStopCause, Undoes}
use Rattle.dl_words.proofs.Names.{same_name, or_left, among_outputs, among_at, among_take, distinct_at, apart_from, take_next}
use Rattle.dl_journal.proofs.Opened.{Opens, opens, opened_open_in, opened_open_out, opened_holds, opened_last, fresh_last, fresh_open, fresh_within}
use Rattle.dl_journal.proofs.Settled.{settled_open_in, settled_open_out, KeepsAsked, settled_asked, fresh_faults, fresh_left, fresh_wrote}

pub map_take : {A B : Type 0} (f : A → B) (l : List A) (n : ℕ) → map f (take n l) ≡ take n (map f l)
map_take f l zero = refl
map_take f [] (suc n) = refl
map_take f (x ∷ l) (suc n) = ap (λ t. f x ∷ t) (map_take f l n)

shut_again : (b was is : Bool) → is ≡ (b || was) → (b ≡ true → was ≡ false) → cond b false is ≡ was
shut_again true was is same shut = sym (shut refl)
shut_again false was is same shut = same

-- a list grew by the first names, and then perhaps by the next one
grown : (start mids ends all : List (List ℕ)) (k : ℕ) (one : List ℕ) → mids ≡ start ++ take k all → take (suc k) all ≡ take k all ++ one ∷ [] → GrowsBy mids ends (one ∷ [])
    → GrowsBy start ends all
grown start mids ends all k one begins next (first, more, is, grows) = (
  take k all ++ first,
  more ++ drop (suc k) all,
  sym (take-append-drop (suc k) all) ∙ ap (λ (l : List (List ℕ)). l ++ drop (suc k) all) (next ∙ ap (λ (l : List (List ℕ)). take k all ++ l) is)
      ∙ ap (λ (l : List (List ℕ)). l ++ drop (suc k) all) (sym (append_assoc (take k all) first more)) ∙ append_assoc (take k all ++ first) more (drop (suc k) all),
  grows ∙ ap (λ (l : List (List ℕ)). l ++ first) begins ∙ append_assoc start (take k all) first,
)

-- The names are opened in order, as far as a place, and then the one at that place.
module _ (tells : Bool) (old : HouseState) (names : List (List ℕ)) (may : MayOpen old names) (at : ℕ) (name : List ℕ) (there : slice_get names at ≡ Some name) where
  abbrev before : List (List ℕ)
  before = take at names

  abbrev now : HouseState
  now = opened_all old before

  among : is_among name names ≡ true
  among = among_at names at name there

  none_of_before : is_among name before ≡ false
  none_of_before = distinct_at names at name may.distinct there

  either : (b c : Bool) → b ≡ false → c ≡ false → (b || c) ≡ false
  either b c h i = (λ k. h k || i k)

  pub next_shut : now.open_in name ≡ false
  next_shut = opened_open_in old before name ∙ either (is_among name before) (old.open_in name) none_of_before (may.inputs name among)

  pub next_shut_out : now.open_out (output_name name) ≡ false
  next_shut_out =
      opened_open_out old before (output_name name)
      ∙ either (is_among (output_name name) (output_names before)) (old.open_out (output_name name)) (among_outputs name before ∙ none_of_before)
      (may.outputs (output_name name) (among_outputs name names ∙ among))

  -- outputs of names before a place are outputs
  outputs_before : (other : List ℕ) → is_among other (output_names before) ≡ true → is_among other (output_names names) ≡ true
  outputs_before other e = among_take (output_names names) at other (subst (λ (l : List (List ℕ)). is_among other l ≡ true) (map_take output_name names at) e)

  none_of_outputs : (other : List ℕ) → is_among other names ≡ true → is_among other (output_names before) ≡ false
  none_of_outputs other e = by (is_among other (output_names before)) (outputs_before other) (apart_from names (output_names names) other may.apart e)
    where
      by : (b : Bool) → (b ≡ true → is_among other (output_names names) ≡ true) → is_among other (output_names names) ≡ false → b ≡ false
      by true later none = absurd (cc (later refl))
      by false later none = refl

  pub next_holds : now.holds name ≡ old.holds name
  next_holds = opened_holds old before name (none_of_outputs name among)

  pub next_opened : opened_pair now name ≡ opened_all old (take (suc at) names)
  next_opened = sym (ap (opened_all old) (take_next names at name there) ∙ opened_last old before name)

  pub next_fresh : (ts : List Told) (t : Told) → length ts ≡ at → AreFresh tells old names ts → IsFresh tells now name t → AreFresh tells old names (ts ++ t ∷ [])
  next_fresh ts t count fresh one =
      fresh_last tells old names ts t name (subst (λ (k : ℕ). slice_get names k ≡ Some name) (sym count) there) fresh
      (record {
        rest = one.rest ∙ next_holds;
        known = one.known;
        read_faults = one.read_faults;
        source_name = one.source_name;
        written = one.written;
        handed = one.handed;
        write_faults = one.write_faults;
        sink_name = one.sink_name;
      })

  -- The last opening failed.
  module _ (mid : HouseState) (stop : OpenStop) (undoes : Undoes tells now mid (name ∷ []) stop) (ts : List Told) (count : length ts ≡ at) (fresh : AreFresh tells old names ts) where
    opened_is : (other : List ℕ) → is_among other before ≡ true → mid.open_in other ≡ true
    opened_is other e = undoes.open_in other ∙ opened_open_in old before other ∙ or_left (is_among other before) (old.open_in other) e

    opened_out_is : (other : List ℕ) → is_among other (output_names before) ≡ true → mid.open_out other ≡ true
    opened_out_is other e = undoes.open_out other ∙ opened_open_out old before other ∙ or_left (is_among other (output_names before)) (old.open_out other) e

    pub others_open : AreOpen mid names ts
    others_open =
        fresh_open tells old mid names ts
        (subst (λ (k : ℕ). (other : List ℕ) → is_among other (take k names) ≡ true → mid.open_in other ≡ true) (sym count) opened_is)
        (subst (λ (k : ℕ). (other : List ℕ) → is_among other (output_names (take k names)) ≡ true → mid.open_out other ≡ true) (sym count) opened_out_is)
        fresh

    abbrev new : HouseState
    new = settled_all mid names ts

    within : length ts ≤ length names
    within = fresh_within tells old names ts fresh

    undone_in : (other : List ℕ) → new.open_in other ≡ old.open_in other
    undone_in other =
        settled_open_in mid names ts other within
        ∙ ap (λ (k : ℕ). cond (is_among other (take k names)) false (mid.open_in other)) count
        ∙ shut_again (is_among other before) (old.open_in other) (mid.open_in other) (undoes.open_in other ∙ opened_open_in old before other)
        (λ e. may.inputs other (among_take names at other e))

    undone_out : (other : List ℕ) → new.open_out other ≡ old.open_out other
    undone_out other =
        settled_open_out mid names ts other within
        ∙ ap (λ (k : ℕ). cond (is_among other (output_names (take k names))) false (mid.open_out other)) count
        ∙ shut_again (is_among other (output_names before)) (old.open_out other) (mid.open_out other) (undoes.open_out other ∙ opened_open_out old before other)
        (λ e. may.outputs other (outputs_before other e))

    abbrev o : Opens old now before
    o = opens old before

    abbrev k : KeepsAsked mid new
    k = settled_asked mid names ts

    one_among : (other : List ℕ) (b : Bool) → (b || false) ≡ true → b ≡ true
    one_among other true e = refl
    one_among other false e = e

    undone_left : (other : List ℕ) → (new.left other ≡ old.left other) ⊎ ((is_among other names ≡ true) × (new.left other ≡ old.holds other))
    undone_left other = by (fresh_left tells old mid names ts fresh other) (undoes.left other)
      where
        by : ((new.left other ≡ mid.left other) ⊎ ((is_among other names ≡ true) × (new.left other ≡ old.holds other)))
            → ((mid.left other ≡ now.left other) ⊎ ((is_among other (name ∷ []) ≡ true) × (mid.left other ≡ now.holds other)))
            → (new.left other ≡ old.left other) ⊎ ((is_among other names ≡ true) × (new.left other ≡ old.holds other))
        by (inr taken) later = inr taken
        by (inl kept) (inl same) = inl (kept ∙ same ∙ ap (λ (f : List ℕ → Option (List ℕ)). f other) o.left)
        by (inl kept) (inr (is, holds)) =
            let same : name ≡ other = same_name name other (one_among other (bytes_eq name other) is) in
            inr (subst (λ (n : List ℕ). is_among n names ≡ true) same among, kept ∙ holds ∙ subst (λ (n : List ℕ). now.holds n ≡ old.holds n) same next_holds)

    undone_wrote : (other : List ℕ) → (new.wrote other ≡ old.wrote other) ⊎ (new.wrote other ≡ begun tells)
    undone_wrote other = by (fresh_wrote tells old mid names ts fresh other) (undoes.wrote other)
      where
        by : ((new.wrote other ≡ mid.wrote other) ⊎ (new.wrote other ≡ begun tells)) → ((mid.wrote other ≡ now.wrote other) ⊎ (mid.wrote other ≡ begun tells))
            → (new.wrote other ≡ old.wrote other) ⊎ (new.wrote other ≡ begun tells)
        by (inr fresh) later = inr fresh
        by (inl kept) (inl same) = inl (kept ∙ same ∙ ap (λ (f : List ℕ → Option (List ℕ)). f other) o.wrote)
        by (inl kept) (inr fresh) = inr (kept ∙ fresh)

    abbrev next : take (suc at) names ≡ before ++ name ∷ []
    next = take_next names at name there

    next_out : take (suc at) (output_names names) ≡ take at (output_names names) ++ output_name name ∷ []
    next_out = take_next (output_names names) at (output_name name) (slice_get-map output_name names at ∙ ap (option_map output_name) there)

    undone_cause : (why : OpenStop) → HasStopCause now mid why → HasStopCause old new why
    undone_cause Failed (rose, counted) = (
      subst (λ (n : ℕ). Rose n new.own) o.own (subst (λ (n : ℕ). Rose now.own n) (sym k.own) rose),
      subst (λ (n : ℕ). Rose n new.faults) o.faults (subst (λ (n : ℕ). Rose now.faults n) (sym (fresh_faults tells old mid names ts fresh)) counted),
    )
    undone_cause Memory same = fresh_faults tells old mid names ts fresh ∙ same ∙ o.faults

    pub undone : Undoes tells old new names stop
    undone = record {
      open_in = undone_in;
      open_out = undone_out;
      left = undone_left;
      wrote = undone_wrote;
      asked_in = subst (λ (l : List (List ℕ)). GrowsBy old.asked_in l names) (sym k.asked_in) (grown old.asked_in now.asked_in mid.asked_in names at name o.asked_in next undoes.asked_in);
      asked_out = subst (λ (l : List (List ℕ)). GrowsBy old.asked_out l (output_names names)) (sym k.asked_out)
          (grown old.asked_out now.asked_out mid.asked_out (output_names names) at (output_name name)
          (o.asked_out ∙ ap (λ (l : List (List ℕ)). old.asked_out ++ l) (map_take output_name names at)) next_out undoes.asked_out);
      cause = undone_cause stop undoes.cause;
    }

-- All were opened, and settled as they were.
module _ (tells : Bool) (old : HouseState) (names : List (List ℕ)) (may : MayOpen old names) (ts : List Told) (count : length ts ≡ length names) where
  abbrev full : HouseState
  full = opened_all old names

  abbrev again : HouseState
  again = settled_all full names ts

  whole : take (length ts) names ≡ names
  whole = take_all (length ts) names (omega (arith, count))

  pub all_in : (other : List ℕ) → again.open_in other ≡ old.open_in other
  all_in other =
      settled_open_in full names ts other (omega (arith, count))
      ∙ ap (λ (l : List (List ℕ)). cond (is_among other l) false (full.open_in other)) whole
      ∙ shut_again (is_among other names) (old.open_in other) (full.open_in other) (opened_open_in old names other) (may.inputs other)

  pub all_out : (other : List ℕ) → again.open_out other ≡ old.open_out other
  all_out other =
      settled_open_out full names ts other (omega (arith, count))
      ∙ ap (λ (l : List (List ℕ)). cond (is_among other (output_names l)) false (full.open_out other)) whole
      ∙ shut_again (is_among other (output_names names)) (old.open_out other) (full.open_out other) (opened_open_out old names other) (may.outputs other)

  pub undone_all : AreFresh tells old names ts → Undoes tells old again names Memory
  undone_all fresh =
      let o = opens old names in
      let k = settled_asked full names ts in
      record {
        open_in = all_in;
        open_out = all_out;
        left = λ other. elim (fresh_left tells old full names ts fresh other) as (λ _. (again.left other ≡ old.left other) ⊎ ((is_among other names ≡ true) × (again.left other ≡ old.holds other))) [
          | inl kept ↦ inl (kept ∙ ap (λ (f : List ℕ → Option (List ℕ)). f other) o.left)
          | inr taken ↦ inr taken
        ];
        wrote = λ other. elim (fresh_wrote tells old full names ts fresh other) as (λ _. (again.wrote other ≡ old.wrote other) ⊎ (again.wrote other ≡ begun tells)) [
          | inl kept ↦ inl (kept ∙ ap (λ (f : List ℕ → Option (List ℕ)). f other) o.wrote)
          | inr nothing ↦ inr nothing
        ];
        asked_in = (names, [], sym (append-nil names), k.asked_in ∙ o.asked_in);
        asked_out = (output_names names, [], sym (append-nil (output_names names)), k.asked_out ∙ o.asked_out);
        cause = fresh_faults tells old full names ts fresh ∙ o.faults;
      }
