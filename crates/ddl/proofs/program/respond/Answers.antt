use Rattle.std.proofs.Common.{◌≡◌, [], Option, Some, None, refl, sym, subst, map, string_bytes, append-nil}
use Rattle.dl_words.specs.declared.words.Asked.{Asked}
use Rattle.dl_replies.specs.declared.reply.Reply.TheVariants.{Usage}
use Rattle.ddl.specs.Run.{usage}
use Rattle.ddl.specs.Answering.{Works}
use Rattle.dl_words.specs.Words.{Form, form, form_of, asked_form}
use Rattle.ddl.proofs.Answering.{command_unserved, command_works, printed_answers, result_answers}
use Rattle.ddl.proofs.program.respond.Goals as goal

pub returns-in-Some-Serve-clause-answer : goal.returns-in-Some-Serve-clause-answer
returns-in-Some-Serve-clause-answer g c =
    let words = map string_bytes c.args.words.now.items in
    let is = subst (λ (a : Asked). Some (asked_form a) ≡ form words) c.in-Some-Serve.field-0-is c.in-Some-Serve.ensures.form in
    c.serve_file.ensures.answer words (sym is)

pub returns-in-Some-Command-clause-house : goal.returns-in-Some-Command-clause-house
returns-in-Some-Command-clause-house g c =
    let words = map string_bytes c.args.words.now.items in
    let is = subst (λ (a : Asked). Some (asked_form a) ≡ form words) c.in-Some-Command.field-0-is c.in-Some-Command.ensures.form in
    let state = g.H.House.state in
    subst (λ (a : Option Form). Works (state c.args.house.now) (state c.reply_of-reply.new.house) a) is
    (command_works (state c.args.house.now) (state c.reply_of-reply.new.house) c.in-Some-Command.command c.reply_of-reply.ensures.house)

pub returns-in-Some-Command-clause-answer : goal.returns-in-Some-Command-clause-answer
returns-in-Some-Command-clause-answer g c =
    let words = map string_bytes c.args.words.now.items in
    let is = subst (λ (a : Asked). Some (asked_form a) ≡ form words) c.in-Some-Command.field-0-is c.in-Some-Command.ensures.form in
    let state = g.H.House.state in
    let old = state c.args.house.now in
    let sink = c.answer.new.sink in
    result_answers g.H.House.tells old (state c.reply_of-reply.new.house) [] words (Some (form_of c.in-Some-Command.command)) is (g.H.Out.Sink.handed sink) (g.H.Out.Sink.faults sink) c.answer.result
    c.reply_of-reply.ensures.house.wrote c.reply_of-reply.result c.reply_of-reply.ensures.reply c.reply_of-reply.ensures.cause (command_unserved g.H.House.tells old.holds c.in-Some-Command.command)
    (c.answer.ensures.said g.H.House.tells c.requires.opened.nothing c.requires.opened.none_handed c.requires.opened.no_faults)

pub returns-in-None-clause-answer : goal.returns-in-None-clause-answer
returns-in-None-clause-answer g c =
    let words = map string_bytes c.args.words.now.items in
    let old = g.H.House.state c.args.house.now in
    let sink = c.answer-in-None.new.sink in
    printed_answers g.H.House.tells old old [] words None c.in-None.ensures.form (g.H.Out.Sink.handed sink) (g.H.Out.Sink.faults sink) c.answer-in-None.result refl Usage
    (record { names = []; asked_in = sym (append-nil old.asked_in); may_end = (refl, refl); shown = λ told. usage }) refl tt
    (c.answer-in-None.ensures.said g.H.House.tells c.requires.opened.nothing c.requires.opened.none_handed c.requires.opened.no_faults)
