-- From what came of the words on an open sink, to a run of the program.
use Rattle.std.proofs.Common.{◌≡◌, ◌⊎◌, inl, inr, ℕ, List, [], ◌∷◌, Bool, true, false, Option, refl, sym, ap, subst, ◌∙◌, cond, append_assoc}
use Rattle.std.specs.List.{AllZip}
use Rattle.std.specs.Str.{bytes_eq}
use Rattle.dl_io.specs.House.{HouseState, IsShut, opened_out, settled_out, standard}
use Rattle.dl_words.specs.Names.{output_names}
use Rattle.dl_files.specs.declared.status.Status.{Status}
use Rattle.dl_serving.specs.Serve.{Account, IsAccountOf, HasFailed, HasLacked, Serves, Prints}
use Rattle.ddl.specs.Answering.{Works}
use Rattle.ddl.specs.Run.{Runs, Answers, AnswersBehind}
use Rattle.dl_words.specs.Words.{form}

closed : (b f : Bool) → f ≡ false → cond b false (cond b true f) ≡ false
closed true f shut = refl
closed false f shut = shut

reopened : (b f g : Bool) → g ≡ cond b true f → f ≡ false → cond b false g ≡ false
reopened true f g same shut = refl
reopened false f g same shut = same ∙ shut

module _ (tells : Bool) (old now : HouseState) (handed : Option (List ℕ)) (faults : ℕ) (words : List (List ℕ)) (status : Status) where
  abbrev opened : HouseState
  opened = opened_out old standard

  abbrev settled : HouseState
  settled = settled_out now standard handed faults

  -- each from standard output being open to before that
  accounts_before : (names : List (List ℕ)) (accounts : List Account) → AllZip (IsAccountOf tells opened settled) names accounts → AllZip (IsAccountOf tells old settled) names accounts
  accounts_before [] [] all = tt
  accounts_before [] (a ∷ more) all = absurd all
  accounts_before (n ∷ ns) [] all = absurd all
  accounts_before (n ∷ ns) (a ∷ more) all = (
    record { input = all.0.input; left = all.0.left; within = all.0.within; output = all.0.output; cause = all.0.cause },
    accounts_before ns more all.1,
  )

  prints_before : (text : List ℕ) (expected : Status) → Prints tells opened settled text expected status → Prints tells old settled text expected status
  prints_before text expected (inl printed) = inl (record { no_fault = printed.no_fault; wrote = printed.wrote; same = printed.same })
  prints_before text expected (inr cut) = inr (record { rose = cut.rose; wrote = cut.wrote; fault = cut.fault })

  serves_before : (theory : List ℕ) (names : List (List ℕ)) → Serves tells opened settled theory names (output_names names) status
      → Serves tells old settled theory names (standard ∷ output_names names) status
  serves_before theory names (inl h) = inl (record {
    T = h.T;
    history = h.history;
    accounts = h.accounts;
    asked_in = h.asked_in;
    asked_out = h.asked_out ∙ append_assoc old.asked_out (standard ∷ []) (output_names names);
    loads = h.loads;
    served = h.served;
    told = accounts_before names h.accounts h.told;
    printed = prints_before _ _ h.printed;
    calm = h.calm;
    rose = h.rose;
  })
  serves_before theory names (inr h) = inr (record { nothing = h.nothing; cause = by h.cause })
    where
      by : HasFailed opened settled theory status ⊎ HasLacked opened settled status → HasFailed old settled theory status ⊎ HasLacked old settled status
      by (inl failed) = inl (record { fault = failed.fault; rose = failed.rose; cause = failed.cause })
      by (inr lacked) = inr (record { memory = lacked.memory; no_fault = lacked.no_fault })

  answers : AnswersBehind [] tells opened settled words status → Answers tells old settled words status
  answers (inl says) = inl (record { no_fault = says.no_fault; names = says.names; asked_in = says.asked_in; may_end = says.may_end; shown = says.shown })
  answers (inr (inl fails)) = inr (inl (record { fault = fails.fault; rose = fails.rose; front = fails.front; unserved = fails.unserved }))
  answers (inr (inr (inl lacks))) = inr (inr (inl (record { memory = lacks.memory; no_fault = lacks.no_fault; front = lacks.front; unserved = lacks.unserved })))
  answers (inr (inr (inr serves))) = inr (inr (inr (record {
    theory = serves.theory;
    names = serves.names;
    asks = serves.asks;
    serves = serves_before serves.theory serves.names serves.serves;
  })))

  -- standard output was opened, the words were answered, and it was settled
  run_at : IsShut old → Works opened now (form words) → AnswersBehind [] tells opened settled words status → Runs tells old settled words status
  run_at shut works answer = record {
    shut = record {
      no_input = λ name. works.open_in name ∙ shut.no_input name;
      no_output = λ name. reopened (bytes_eq standard name) (old.open_out name) (now.open_out name) (works.open_out name) (shut.no_output name);
    };
    asked_in = works.asked_in;
    asked_out = (
      standard ∷ works.asked_out.0,
      works.asked_out.1,
      ap (λ (l : List (List ℕ)). standard ∷ l) works.asked_out.2,
      works.asked_out.3 ∙ append_assoc old.asked_out (standard ∷ []) works.asked_out.0,
    );
    within = works.within;
    answer = answers answer;
  }

pub run_on : (tells : Bool) (old opened now settled : HouseState) (dash : List ℕ) (handed : Option (List ℕ)) (faults : ℕ) (words : List (List ℕ)) (status : Status)
    → dash ≡ standard → IsShut old → opened ≡ opened_out old dash → Works opened now (form words)
    → AnswersBehind [] tells opened (settled_out now standard handed faults) words status → settled ≡ settled_out now dash handed faults → Runs tells old settled words status
run_on tells old opened now settled dash handed faults words status is_dash shut opens works answer settles =
    let opens_standard : opened ≡ opened_out old standard = opens ∙ ap (opened_out old) is_dash in
    let settles_standard : settled ≡ settled_out now standard handed faults = settles ∙ ap (λ name. settled_out now name handed faults) is_dash in
    let Worked : HouseState → Type 0 = λ house. Works house now (form words) in
    let Answer : HouseState → Type 0 = λ house. AnswersBehind [] tells house (settled_out now standard handed faults) words status in
    let Run : HouseState → Type 0 = λ house. Runs tells old house words status in
    subst Run (sym settles_standard) (run_at tells old now handed faults words status shut (subst Worked opens_standard works) (subst Answer opens_standard answer))
