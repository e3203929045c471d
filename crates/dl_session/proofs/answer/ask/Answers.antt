use Rattle.dl_session.proofs.Answering.{asks_held, asks_kept, asks_unpublished, asks_in_vain, kept_some}
use Rattle.dl_session.proofs.answer.ask.Goals as goal

pub returns-in-Some-clause-answers : goal.returns-in-Some-clause-answers
returns-in-Some-clause-answers g c = λ before keeps.
    asks_held c.args.number c.args.query.now before c.args.table.now.editions c.args.seat.now c.in-Some.held.now.theory _ c.requires.may.within c.in-Some.ensures c.told.ensures keeps

pub told_from-requires : goal.told_from-requires
told_from-requires g c = kept_some _ _ _ c.in-Kept.ensures.holds.1

pub returns-in-Kept-clause-answers : goal.returns-in-Kept-clause-answers
returns-in-Kept-clause-answers g c = λ before keeps.
    asks_kept c.args.number c.args.query.now before c.args.table.now.editions c.args.seat.now c.hold.new.seat c.hold.new.table.editions _ c.in_default.ensures c.in-Kept.ensures.made c.in-Kept.ensures.holds
    c.told_from.ensures keeps

pub returns-in-Unpublished-clause-answers : goal.returns-in-Unpublished-clause-answers
returns-in-Unpublished-clause-answers g c = λ before keeps.
    asks_unpublished c.args.number c.args.query.now before c.args.table.now.editions c.args.seat.now c.hold.new.seat c.hold.new.table.editions c.in-Unpublished.asked c.in-Unpublished.published c.in_default.ensures
    c.in-Unpublished.ensures.made c.in-Unpublished.ensures.holds keeps

pub returns-in-Memory-clause-answers : goal.returns-in-Memory-clause-answers
returns-in-Memory-clause-answers g c = λ before keeps.
    asks_in_vain c.args.number c.args.query.now before c.args.table.now.editions c.args.seat.now c.hold.new.seat c.hold.new.table.editions c.in-Memory.ensures.made c.in-Memory.ensures.holds keeps
