use Rattle.std.proofs.Common.{[], ◌∷◌, Some, refl, sym, subst, string_bytes, append-nil}
use Rattle.dl_words.specs.declared.words.Command.{Command}
use Rattle.dl_words.specs.Words.{form_of}
use Rattle.ddl.specs.Run.{Replies, files_for}
use Rattle.dl_files.specs.Reading.{ReadsOnly}
use Rattle.ddl.proofs.Certifying.{reads_nothing}
use Rattle.ddl.proofs.program.reply_of.Goals as goal

pub returns-in_ok-reply-in-Conclude-clause-reply : goal.returns-in_ok-reply-in-Conclude-clause-reply
returns-in_ok-reply-in-Conclude-clause-reply g c =
    let state = g.H.House.state in
    let file = string_bytes c.in-Conclude.file.now in
    subst (λ (k : Command). Replies g.H.House.tells (state c.args.house.now) (state c.load.new.house) (Some (form_of k)) c.in_ok-reply-in-Conclude.reply) (sym c.in-Conclude.is)
    (record {
      names = file ∷ [];
      asked_in = c.in_ok-loaded-in-Conclude.ensures.asked;
      may_end = (refl, c.in_ok-reply-in-Conclude.ensures.ends);
      shown = λ told. c.in_ok-reply-in-Conclude.ensures.shown (state c.args.house.now).holds file (c.in_ok-loaded-in-Conclude.ensures.loaded told);
    })

pub returns-in_ok-loaded-in-Print-clause-reply : goal.returns-in_ok-loaded-in-Print-clause-reply
returns-in_ok-loaded-in-Print-clause-reply g c =
    let state = g.H.House.state in
    let file = string_bytes c.in-Print.file.now in
    subst (λ (k : Command). Replies g.H.House.tells (state c.args.house.now) (state c.load-in-Print.new.house) (Some (form_of k)) c.print_of.result) (sym c.in-Print.is)
    (record {
      names = file ∷ [];
      asked_in = c.in_ok-loaded-in-Print.ensures.asked;
      may_end = (refl, c.print_of.ensures.ends);
      shown = λ told. c.print_of.ensures.shown (state c.args.house.now).holds file (c.in_ok-loaded-in-Print.ensures.loaded told);
    })

pub returns-in_ok-reply-in-Gen-clause-house : goal.returns-in_ok-reply-in-Gen-clause-house
returns-in_ok-reply-in-Gen-clause-house g c =
    let state = g.H.House.state in
    subst (λ (k : Command). ReadsOnly (state c.args.house.now) (state c.args.house.now) (files_for (Some (form_of k)))) (sym c.in-Gen.is) (reads_nothing (state c.args.house.now))

pub returns-in_err-reply-in-Gen-clause-house : goal.returns-in_err-reply-in-Gen-clause-house
returns-in_err-reply-in-Gen-clause-house g c =
    let state = g.H.House.state in
    subst (λ (k : Command). ReadsOnly (state c.args.house.now) (state c.args.house.now) (files_for (Some (form_of k)))) (sym c.in-Gen.is) (reads_nothing (state c.args.house.now))

pub returns-in_ok-reply-in-Gen-clause-reply : goal.returns-in_ok-reply-in-Gen-clause-reply
returns-in_ok-reply-in-Gen-clause-reply g c =
    let state = g.H.House.state in
    subst (λ (k : Command). Replies g.H.House.tells (state c.args.house.now) (state c.args.house.now) (Some (form_of k)) c.in_ok-reply-in-Gen.reply) (sym c.in-Gen.is)
    (record {
      names = [];
      asked_in = sym (append-nil (state c.args.house.now).asked_in);
      may_end = (refl, c.in_ok-reply-in-Gen.ensures.ends);
      shown = λ told. c.in_ok-reply-in-Gen.ensures.shown (state c.args.house.now).holds;
    })
