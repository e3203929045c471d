use Rattle.std.proofs.Common.{◌∙◌, ℕ, List, [], ◌∷◌, ◌++◌, Option, inl, inr, refl, ap, sym, subst, append_assoc, string_bytes}
use Rattle.std.specs.Prelude.{Err}
use Rattle.dl_replies.specs.declared.reply.Reply.{Reply}
use Rattle.std.proofs.lemmas.Result.{err_from_is_err_and}
use Rattle.dl_theory.specs.Lists.{TheoryLists}
use Rattle.dl_files.specs.declared.theory_file.Loaded.{Loaded}
use Rattle.dl_files.specs.Theories.{IsLoaded}
use Rattle.dl_words.specs.Words.{Check}
use Rattle.ddl.specs.Run.{refused}
use Rattle.ddl.proofs.Certifying.{certificate_shown, fault_after, reads_first, reads_both}
use Rattle.ddl.proofs.program.check_files.Goals as goal

pub returns-in_err-reply-in-Theory-clause-cause : goal.returns-in_err-reply-in-Theory-clause-cause
returns-in_err-reply-in-Theory-clause-cause g c =
    let p = err_from_is_err_and c.from_residual-in_err-reply-in-Theory.result c.from_residual-in_err-reply-in-Theory.ensures.1 in
    let state = g.H.House.state in
    rw (p.1, p.2)
    (fault_after {T = Reply} (state c.args.house.now).faults (state c.load.new.house).faults (state c.check_file.new.house).faults
    (Err c.in_err-reply-in-Theory.field-0.0) c.in_ok-refusal.ensures.cause c.in_err-reply-in-Theory.ensures.cause)

pub returns-in-Refused-clause-reply : goal.returns-in-Refused-clause-reply
returns-in-Refused-clause-reply g c =
    let file = string_bytes c.args.file.now in
    record {
      names = file ∷ [];
      asked_in = c.in_ok-refusal.ensures.asked;
      may_end = inl (refl, refl);
      shown = λ told.
          let gives = c.in_ok-refusal.ensures.loaded told in
          refused (Check file (string_bytes c.args.cert.now)) file gives.0 c.in-Refused.refusal refl gives.1
          (subst (λ (x : Loaded TheoryLists). IsLoaded (λ (T : TheoryLists). T) gives.0 x) c.in-Refused.is gives.2);
    }

pub returns-in_ok-reply-in-Theory-clause-reply : goal.returns-in_ok-reply-in-Theory-clause-reply
returns-in_ok-reply-in-Theory-clause-reply g c =
    let old = g.H.House.state c.args.house.now in
    let file = string_bytes c.args.file.now in
    let cert = string_bytes c.args.cert.now in
    record {
      names = file ∷ cert ∷ [];
      asked_in = c.in_ok-reply-in-Theory.ensures.asked
          ∙ ap (λ (l : List (List ℕ)). l ++ cert ∷ []) c.in_ok-refusal.ensures.asked
          ∙ append_assoc old.asked_in (file ∷ []) (cert ∷ []);
      may_end = inr (refl, c.in_ok-reply-in-Theory.ensures.ends);
      shown = λ told.
          let gives = c.in_ok-refusal.ensures.loaded told in
          let said = c.in_ok-reply-in-Theory.ensures.said told in
          certificate_shown old.holds file cert gives.0 said.0 c.in-Theory.theory gives.1
          (subst (λ (x : Loaded TheoryLists). IsLoaded (λ (T : TheoryLists). T) gives.0 x) c.in-Theory.is gives.2)
          (sym (ap (λ (h : List ℕ → Option (List ℕ)). h cert) c.in_ok-refusal.ensures.house.holds) ∙ said.1)
          c.in_ok-reply-in-Theory.reply said.2;
    }

pub returns-in_err-refusal-clause-house : goal.returns-in_err-refusal-clause-house
returns-in_err-refusal-clause-house g c =
    reads_first (g.H.House.state c.args.house.now) (g.H.House.state c.load.new.house) (string_bytes c.args.file.now) (string_bytes c.args.cert.now) c.load.ensures.house

pub returns-in-Refused-clause-house : goal.returns-in-Refused-clause-house
returns-in-Refused-clause-house g c =
    reads_first (g.H.House.state c.args.house.now) (g.H.House.state c.load.new.house) (string_bytes c.args.file.now) (string_bytes c.args.cert.now) c.load.ensures.house

pub returns-in_err-reply-in-Theory-clause-house : goal.returns-in_err-reply-in-Theory-clause-house
returns-in_err-reply-in-Theory-clause-house g c =
    let state = g.H.House.state in
    reads_both (state c.args.house.now) (state c.load.new.house) (state c.check_file.new.house) (string_bytes c.args.file.now) (string_bytes c.args.cert.now)
    c.in_ok-refusal.ensures.house c.in_ok-refusal.ensures.asked c.in_err-reply-in-Theory.ensures.house

pub returns-in_ok-reply-in-Theory-clause-house : goal.returns-in_ok-reply-in-Theory-clause-house
returns-in_ok-reply-in-Theory-clause-house g c =
    let state = g.H.House.state in
    reads_both (state c.args.house.now) (state c.load.new.house) (state c.check_file.new.house) (string_bytes c.args.file.now) (string_bytes c.args.cert.now)
    c.in_ok-refusal.ensures.house c.in_ok-refusal.ensures.asked c.in_ok-reply-in-Theory.ensures.house
