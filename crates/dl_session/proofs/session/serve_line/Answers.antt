use Rattle.std.proofs.Common.{refl, inl, [], subst}
use Rattle.dl_read.specs.Files.{without_cr}
use Rattle.dl_request.specs.Requests.{Asks}
use Rattle.dl_request.specs.declared.request.Asked.{Asked}
use Rattle.dl_request.specs.declared.request.Asked.TheVariants as asked
use Rattle.dl_request.proofs.Deciding.{one_thing}
use Rattle.dl_session.specs.Seats.{editions_of}
use Rattle.dl_session.proofs.Serving.{replies_short, replies_alone, serves_by, memory_replies, append_nothing}
use Rattle.dl_session.proofs.session.serve_line.Goals as goal

pub returns-in-Ok-Nothing-clause-serves : goal.returns-in-Ok-Nothing-clause-serves
returns-in-Ok-Nothing-clause-serves g c = λ before keeps.
    ([], replies_alone before c.args.line.now asked.Nothing c.args.seat.now c.args.table.now.editions [] c.requires.may.within c.requires.short (subst (λ (x : Asked). Asks c.args.line.now x) c.in-Ok-Nothing.field-0-is c.in-Ok-Nothing.ensures.asked.0) keeps (refl, refl), append_nothing _)

pub returns-in-Ok-Quit-clause-serves : goal.returns-in-Ok-Quit-clause-serves
returns-in-Ok-Quit-clause-serves g c = λ before keeps. ((c.requires.short, (subst (λ (x : Asked). Asks c.args.line.now x) c.in-Ok-Quit.field-0-is c.in-Ok-Quit.ensures.asked.0)), refl, refl)

pub returns-in-Ok-Request-clause-serves : goal.returns-in-Ok-Request-clause-serves
returns-in-Ok-Request-clause-serves g c = λ before keeps.
    serves_by before c.args.line.now c.args.seat.now c.answer-ready.new.seat c.answer-ready.new.table.editions _ _ _ _
    (replies_short before c.args.line.now (asked.Request c.in-Ok-Request.request) c.args.seat.now c.answer-ready.new.seat c.answer-ready.new.table.editions _ c.requires.short (subst (λ (x : Asked). Asks c.args.line.now x) c.in-Ok-Request.field-0-is c.in-Ok-Request.ensures.asked.0)
    (c.answer-ready.ensures.answers before keeps)) c.reply.ensures.sends

pub returns-in-Ok-Variables-clause-serves : goal.returns-in-Ok-Variables-clause-serves
returns-in-Ok-Variables-clause-serves g c = λ before keeps.
    serves_by before c.args.line.now c.args.seat.now c.args.seat.now c.args.table.now.editions _ _ _ _
    (replies_alone before c.args.line.now asked.Variables c.args.seat.now c.args.table.now.editions _ c.requires.may.within c.requires.short (subst (λ (x : Asked). Asks c.args.line.now x) c.in-Ok-Variables.field-0-is c.in-Ok-Variables.ensures.asked.0) keeps (refl, refl)) c.reply-in-Ok-Variables.ensures.sends

pub returns-in-Ok-Form-clause-serves : goal.returns-in-Ok-Form-clause-serves
returns-in-Ok-Form-clause-serves g c = λ before keeps.
    serves_by before c.args.line.now c.args.seat.now c.args.seat.now c.args.table.now.editions _ _ _ _
    (replies_alone before c.args.line.now asked.Form c.args.seat.now c.args.table.now.editions _ c.requires.may.within c.requires.short (subst (λ (x : Asked). Asks c.args.line.now x) c.in-Ok-Form.field-0-is c.in-Ok-Form.ensures.asked.0) keeps (refl, inl refl)) c.reply-in-Ok-Form.ensures.sends

pub returns-in-Err-clause-serves : goal.returns-in-Err-clause-serves
returns-in-Err-clause-serves g c = λ before keeps.
    let one = one_thing (without_cr c.args.line.now) in
    serves_by before c.args.line.now c.args.seat.now c.args.seat.now c.args.table.now.editions _ _ _ _
    (replies_alone before c.args.line.now one.0 c.args.seat.now c.args.table.now.editions _ c.requires.may.within c.requires.short one.1.0 keeps
    (memory_replies (editions_of c.args.seat.now) before one.0 (c.in-Err.ensures.memory one.0 one.1.0))) c.reply-in-Err.ensures.sends
