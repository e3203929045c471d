-- From a reply on a new sink, or from none, to what is said of the words.
use Rattle.std.proofs.Common.{◌≡◌, ◌∙◌, ◌⊎◌, ◌+◌, ℕ, inl, inr, List, [], ◌∷◌, ◌++◌, Bool, true, false, Option, None, Some, Ok, Err, IfOk, refl, sym, ap, subst, arith, cond, append_assoc, append-nil, if◌then◌else◌}
use Rattle.std.specs.Io.KnownBytes.{append_known}
use Rattle.std.specs.Prelude.{Result}
use Rattle.std.specs.Str.{bytes_eq}
use Rattle.dl_io.specs.Outside.{Rose, raised, at_name}
use Rattle.dl_io.specs.House.{HouseState, IsShut, standard, failed_out, settled_out}
use Rattle.dl_lines.specs.declared.reader.TheConstants.{MOST_BYTES}
use Rattle.dl_words.specs.Names.{output_names, is_among}
use Rattle.dl_journal.specs.Streams.{begun}
use Rattle.dl_files.specs.declared.refusal.Refusal.{Refusal}
use Rattle.dl_replies.specs.declared.reply.Reply.{Reply}
use Rattle.dl_replies.specs.declared.reply.Reply.TheVariants as reply_of
use Rattle.dl_files.specs.declared.status.Status.{Status}
use Rattle.dl_files.specs.declared.status.Status.TheVariants as status
use Rattle.dl_files.specs.declared.whole.Stop.{Stop}
use Rattle.dl_files.specs.declared.whole.Stop.TheVariants as stop
use Rattle.dl_words.specs.declared.words.Command.{Command}
use Rattle.dl_words.specs.declared.words.Command.TheVariants as command
use Rattle.dl_replies.specs.Replies.{reply_status, reply_text}
use Rattle.ddl.specs.Run.{outcome_of, Shows, refused, MayEnd, Replies, IsUnserved, AnswersBehind, Answers, Runs, files_for, files_of, outputs_of, most_for, session_outputs}
use Rattle.dl_files.specs.Reading.{ReadsOnly, CountsBy}
use Rattle.dl_serving.specs.Serve.{HasFailed, HasLacked}
use Rattle.dl_serving.specs.Serving.{PrintsTo}
use Rattle.ddl.specs.Answering.{SaysTo, Works}
use Rattle.dl_files.specs.Theories.{limit, IsRefusal}
use Rattle.dl_files.specs.Whole.{HasFault, TakesAtMost}
use Rattle.dl_words.specs.Words.{Form, Conclude, Print, Check, Gen, Serve, form, form_of}

-- the program does not serve for a command
pub command_unserved : (tells : Bool) (holds : List ℕ → Option (List ℕ)) (asked : Command) → IsUnserved tells holds (Some (form_of asked))
command_unserved tells holds (command.Conclude f file) = tt
command_unserved tells holds (command.Print file) = tt
command_unserved tells holds (command.Check theory cert) = tt
command_unserved tells holds (command.Gen seed size) = tt

module _ (old new : HouseState) where
  reads_work : (asked : Option Form) → ReadsOnly old new (files_for asked) → most_for asked ≡ (λ name. limit + 1) → session_outputs asked ≡ [] → Works old new asked
  reads_work asked reads most none = record {
    within = subst (λ (most : List ℕ → ℕ). (name : List ℕ) → (new.left name ≡ old.left name) ⊎ TakesAtMost (most name) (old.holds name) (new.left name)) (sym most) reads.within;
    open_in = λ name. ap (λ (f : List ℕ → Bool). f name) reads.open_in;
    open_out = λ name. ap (λ (f : List ℕ → Bool). f name) reads.open_out;
    asked_in = reads.asked_in;
    asked_out = ([], [], none, reads.asked_out ∙ sym (append-nil old.asked_out));
  }

  pub command_works : (asked : Command) → ReadsOnly old new (files_for (Some (form_of asked))) → Works old new (Some (form_of asked))
  command_works (command.Conclude f file) reads = reads_work (Some (form_of (command.Conclude f file))) reads refl refl
  command_works (command.Print file) reads = reads_work (Some (form_of (command.Print file))) reads refl refl
  command_works (command.Check theory cert) reads = reads_work (Some (form_of (command.Check theory cert))) reads refl refl
  command_works (command.Gen seed size) reads = reads_work (Some (form_of (command.Gen seed size))) reads refl refl

  -- only the theory was read
  pub theory_works : (theory : List ℕ) (names : List (List ℕ)) → ReadsOnly old new (theory ∷ []) → Works old new (Some (Serve theory names))
  theory_works theory names reads = record {
    within = λ name. by name (is_among name names) (reads.within name);
    open_in = λ name. ap (λ (f : List ℕ → Bool). f name) reads.open_in;
    open_out = λ name. ap (λ (f : List ℕ → Bool). f name) reads.open_out;
    asked_in = (
      reads.asked_in.0,
      reads.asked_in.1 ++ names,
      ap (λ (l : List (List ℕ)). l ++ names) reads.asked_in.2 ∙ append_assoc reads.asked_in.0 reads.asked_in.1 names,
      reads.asked_in.3,
    );
    asked_out = ([], output_names names, refl, reads.asked_out ∙ sym (append-nil old.asked_out));
  }
    where
      by : (name : List ℕ) (b : Bool) → (new.left name ≡ old.left name) ⊎ TakesAtMost (limit + 1) (old.holds name) (new.left name)
          → (new.left name ≡ old.left name) ⊎ TakesAtMost (if b then MOST_BYTES else limit + 1) (old.holds name) (new.left name)
      by name b (inl same) = inl same
      by name true (inr takes) = inr (takes.0, takes.1, omega (arith, takes.2))
      by name false (inr takes) = inr takes

module _ (tells : Bool) (old now : HouseState) (before words : List (List ℕ)) (asked : Option Form) (is : asked ≡ form words) (handed : Option (List ℕ)) (faults : ℕ) (ends : Status)
    (wrote : now.wrote ≡ old.wrote) where
  abbrev final : HouseState
  final = settled_out now standard handed faults

  shown_wrote : (text : List ℕ) → handed ≡ Some text → final.wrote ≡ at_name old.wrote standard (Some text)
  shown_wrote text same = λ i. at_name (wrote i) standard (same i)

  -- a reply was printed, or a front of it
  pub printed_answers : (r : Reply) → Replies tells old now asked r → now.faults ≡ old.faults → IsUnserved tells old.holds asked → PrintsTo tells handed faults (reply_text r) (reply_status r) ends
      → AnswersBehind before tells old final words ends
  printed_answers r replies quiet unserved (inl (none, got, same)) = inl (record {
    no_fault = omega (arith, none, quiet);
    names = replies.names;
    asked_in = replies.asked_in;
    may_end = subst (λ (a : Option Form). MayEnd a replies.names ends) is (subst (λ (s : Status). MayEnd asked replies.names s) (sym same) replies.may_end);
    shown = λ (told : tells ≡ true). (
      outcome_of r,
      subst (λ (a : Option Form). Shows old.holds a replies.names (outcome_of r)) is (replies.shown told),
      same,
      shown_wrote (reply_text r) (got ∙ ap (λ (b : Bool). append_known (begun b) (reply_text r)) told),
    );
  })
  printed_answers r replies quiet unserved (inr (rose, cut, fault)) = inr (inl (record {
    fault = fault;
    rose = omega (arith, rose, quiet);
    front = λ (told : tells ≡ true).
        let front = cut told in
        inr (
          front.0,
          inr (replies.names, outcome_of r, subst (λ (a : Option Form). Shows old.holds a replies.names (outcome_of r)) is (replies.shown told), front.1),
          shown_wrote front.0 front.2,
        );
    unserved = subst (λ (a : Option Form). IsUnserved tells old.holds a) is unserved;
  }))

  -- there is none, for a fault or for want of memory
  pub stopped_answers : (s : Stop) → HasFault {T = Reply} old.faults now.faults (Err s) → IsUnserved tells old.holds asked → SaysTo tells handed faults (Err s) ends → AnswersBehind before tells old final words ends
  stopped_answers stop.Fault rose unserved (none, nothing, same) = inr (inl (record {
    fault = same;
    rose = omega (arith, rose, none);
    front = λ (told : tells ≡ true). inr ([], inl refl, shown_wrote [] (nothing ∙ ap begun told));
    unserved = subst (λ (a : Option Form). IsUnserved tells old.holds a) is unserved;
  }))
  stopped_answers stop.Memory quiet unserved (none, nothing, same) = inr (inr (inl (record {
    memory = same;
    no_fault = omega (arith, quiet, none);
    front = λ (told : tells ≡ true). inr ([], inl refl, shown_wrote [] (nothing ∙ ap begun told));
    unserved = subst (λ (a : Option Form). IsUnserved tells old.holds a) is unserved;
  })))

  -- the one or the other
  pub result_answers : (r : Result Reply Stop) → IfOk r (Replies tells old now asked) → HasFault old.faults now.faults r → IsUnserved tells old.holds asked → SaysTo tells handed faults r ends
      → AnswersBehind before tells old final words ends
  result_answers (Ok r) replies quiet unserved says = printed_answers r replies quiet unserved says
  result_answers (Err s) replies fault unserved says = stopped_answers s fault unserved says

  -- the same of a theory that sessions are to begin from
  module _ (theory : List ℕ) (names : List (List ℕ)) (serve : asked ≡ Some (Serve theory names)) (none : faults ≡ 0) (nothing : handed ≡ begun tells) where
    nothing_at : tells ≡ true → (name : List ℕ) (b : Bool) → (cond b handed (now.wrote name) ≡ old.wrote name) ⊎ (cond b handed (now.wrote name) ≡ Some [])
    nothing_at told name true = inr (nothing ∙ ap begun told)
    nothing_at told name false = inl (ap (λ (f : List ℕ → Option (List ℕ)). f name) wrote)

    cause_of : (s : Stop) → HasFault {T = Reply} old.faults now.faults (Err s) → CountsBy {T = Reply} old now theory (Err s) → SaysTo tells handed faults (Err s) ends
        → HasFailed old final theory ends ⊎ HasLacked old final ends
    cause_of stop.Fault rose counts (zero, empty, same) = inl (record { fault = same; rose = omega (arith, rose, none); cause = counts })
    cause_of stop.Memory quiet counts (zero, empty, same) = inr (record { memory = same; no_fault = omega (arith, quiet, none) })

    pub unread_answers : (s : Stop) → HasFault {T = Reply} old.faults now.faults (Err s) → CountsBy {T = Reply} old now theory (Err s) → SaysTo tells handed faults (Err s) ends
        → AnswersBehind before tells old final words ends
    unread_answers s fault counts says = inr (inr (inr (record {
      theory = theory;
      names = names;
      asks = sym is ∙ serve;
      serves = inr (record {
        nothing = λ (told : tells ≡ true) name. nothing_at told name (bytes_eq standard name);
        cause = cause_of s fault counts says;
      });
    })))

-- the reply that refuses a theory
pub refused_replies : (tells : Bool) (old now : HouseState) (theory : List ℕ) (names : List (List ℕ)) (x : Refusal) → now.asked_in ≡ old.asked_in ++ theory ∷ []
    → (tells ≡ true → (bytes : List ℕ) × (old.holds theory ≡ Some bytes) × IsRefusal bytes x) → Replies tells old now (Some (Serve theory names)) (reply_of.Refused x)
refused_replies tells old now theory names x asked held = record {
  names = theory ∷ [];
  asked_in = asked;
  may_end = (refl, refl);
  shown = λ (told : tells ≡ true). let h = held told in refused (Serve theory names) theory h.0 x refl h.1 h.2;
}

-- standard output was not opened, so nothing was
module _ (tells : Bool) (old : HouseState) (words : List (List ℕ)) where
  lacks_by : (asked : Option Form) → form words ≡ asked → Answers tells old old words status.Memory
  lacks_by None is = inr (inr (inl (record { memory = refl; no_fault = refl; front = λ told. inl (refl, refl); unserved = subst (IsUnserved tells old.holds) (sym is) tt })))
  lacks_by (Some (Conclude f file)) is = inr (inr (inl (record { memory = refl; no_fault = refl; front = λ told. inl (refl, refl); unserved = subst (IsUnserved tells old.holds) (sym is) tt })))
  lacks_by (Some (Print file)) is = inr (inr (inl (record { memory = refl; no_fault = refl; front = λ told. inl (refl, refl); unserved = subst (IsUnserved tells old.holds) (sym is) tt })))
  lacks_by (Some (Check theory cert)) is = inr (inr (inl (record { memory = refl; no_fault = refl; front = λ told. inl (refl, refl); unserved = subst (IsUnserved tells old.holds) (sym is) tt })))
  lacks_by (Some (Gen seed size)) is = inr (inr (inl (record { memory = refl; no_fault = refl; front = λ told. inl (refl, refl); unserved = subst (IsUnserved tells old.holds) (sym is) tt })))
  lacks_by (Some (Serve theory names)) is = inr (inr (inr (record {
    theory = theory;
    names = names;
    asks = is;
    serves = inr (record { nothing = λ told name. inl refl; cause = inr (record { memory = refl; no_fault = refl }) });
  })))

  abbrev failed : HouseState
  failed = failed_out old standard

  rises : (n : ℕ) → Rose n (raised n 1)
  rises n = omega arith

  fails_by : (asked : Option Form) → form words ≡ asked → Answers tells old failed words status.Fault
  fails_by None is = inr (inl (record { fault = refl; rose = rises old.faults; front = λ told. inl (refl, refl); unserved = subst (IsUnserved tells old.holds) (sym is) tt }))
  fails_by (Some (Conclude f file)) is = inr (inl (record { fault = refl; rose = rises old.faults; front = λ told. inl (refl, refl); unserved = subst (IsUnserved tells old.holds) (sym is) tt }))
  fails_by (Some (Print file)) is = inr (inl (record { fault = refl; rose = rises old.faults; front = λ told. inl (refl, refl); unserved = subst (IsUnserved tells old.holds) (sym is) tt }))
  fails_by (Some (Check theory cert)) is = inr (inl (record { fault = refl; rose = rises old.faults; front = λ told. inl (refl, refl); unserved = subst (IsUnserved tells old.holds) (sym is) tt }))
  fails_by (Some (Gen seed size)) is = inr (inl (record { fault = refl; rose = rises old.faults; front = λ told. inl (refl, refl); unserved = subst (IsUnserved tells old.holds) (sym is) tt }))
  fails_by (Some (Serve theory names)) is = inr (inr (inr (record {
    theory = theory;
    names = names;
    asks = is;
    serves = inr (record { nothing = λ told name. inl refl; cause = inl (record { fault = refl; rose = rises old.faults; cause = inl (rises old.own) }) });
  })))

  pub run_lacked : IsShut old → Runs tells old old words status.Memory
  run_lacked shut = record {
    shut = shut;
    asked_in = ([], files_of words, refl, sym (append-nil old.asked_in));
    asked_out = ([], outputs_of words, refl, sym (append-nil old.asked_out));
    within = λ name. inl refl;
    answer = lacks_by (form words) refl;
  }

  pub run_failed : IsShut old → Runs tells old failed words status.Fault
  run_failed shut = record {
    shut = record { no_input = shut.no_input; no_output = shut.no_output };
    asked_in = ([], files_of words, refl, sym (append-nil old.asked_in));
    asked_out = (standard ∷ [], session_outputs (form words), refl, refl);
    within = λ name. inl refl;
    answer = fails_by (form words) refl;
  }
