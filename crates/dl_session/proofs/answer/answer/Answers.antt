use Rattle.std.proofs.Common.{refl}
use Rattle.dl_calls.specs.declared.call.Call.TheVariants as call
use Rattle.dl_request.specs.declared.request.Request.TheVariants as request
use Rattle.dl_session.specs.Answering.{made_reply, hold_reply, made_text}
use Rattle.dl_session.proofs.Answering.{answers_call, answers_hold, gives_none, requests_as}
use Rattle.dl_session.proofs.answer.answer.Goals as goal

pub returns-in-Edit-clause-answers : goal.returns-in-Edit-clause-answers
returns-in-Edit-clause-answers g c = λ before keeps.
    requests_as c.args.seat.now c.edit.new.seat before c.args.table.now.editions c.args.request (request.Edit c.in-Edit.change) _ (made_text (made_reply c.edit.result)) c.in-Edit.is c.made.ensures
    (answers_call c.args.seat.now c.edit.new.seat (call.Edit c.in-Edit.change) (made_reply c.edit.result) before c.args.table.now.editions c.edit.ensures.made (gives_none c.edit.result c.edit.ensures.holds) keeps)

pub returns-in-Publish-clause-answers : goal.returns-in-Publish-clause-answers
returns-in-Publish-clause-answers g c = λ before keeps.
    requests_as c.args.seat.now c.publish.new.seat before c.args.table.now.editions c.args.request request.Publish _ (made_text (made_reply c.publish.result)) c.in-Publish.is c.made-in-Publish.ensures
    (answers_call c.args.seat.now c.publish.new.seat call.Publish (made_reply c.publish.result) before c.args.table.now.editions c.publish.ensures.made (gives_none c.publish.result c.publish.ensures.holds) keeps)

pub returns-in-Hold-clause-answers : goal.returns-in-Hold-clause-answers
returns-in-Hold-clause-answers g c = λ before keeps.
    requests_as c.args.seat.now c.hold.new.seat before c.hold.new.table.editions c.args.request (request.Hold c.in-Hold.number) _ (made_text (hold_reply c.in-Hold.number c.hold.result)) c.in-Hold.is c.held.ensures
    (answers_hold c.args.seat.now c.hold.new.seat c.in-Hold.number c.hold.result before c.args.table.now.editions c.hold.new.table.editions c.hold.ensures.made c.hold.ensures.holds keeps)

pub returns-in-Ask-clause-answers : goal.returns-in-Ask-clause-answers
returns-in-Ask-clause-answers g c = λ before keeps.
    requests_as c.args.seat.now _ before _ c.args.request (request.Ask c.in-Ask.edition c.in-Ask.family c.in-Ask.literal) _ _ c.in-Ask.is refl (c.ask.ensures.answers before keeps)

pub returns-in-Text-clause-answers : goal.returns-in-Text-clause-answers
returns-in-Text-clause-answers g c = λ before keeps.
    requests_as c.args.seat.now _ before _ c.args.request (request.Text c.in-Text.edition) _ _ c.in-Text.is refl (c.ask-in-Text.ensures.answers before keeps)

pub returns-in-Conclusions-clause-answers : goal.returns-in-Conclusions-clause-answers
returns-in-Conclusions-clause-answers g c = λ before keeps.
    requests_as c.args.seat.now _ before _ c.args.request (request.Conclusions c.in-Conclusions.edition c.in-Conclusions.family) _ _ c.in-Conclusions.is refl (c.ask-in-Conclusions.ensures.answers before keeps)
