use Rattle.dl_session.proofs.Answering.{held_made, held_kept}
use Rattle.dl_session.proofs.Seats.{made}
use Rattle.dl_session.proofs.calls.hold.Goals as goal

pub returns-in-Ok-Holding-clause-made : goal.returns-in-Ok-Holding-clause-made
returns-in-Ok-Holding-clause-made g c =
    let called = rw c.in-Ok-Holding.field-0-is at c.in-Ok-Holding.ensures.called in
    let out = rw c.in-Ok-Holding.field-0-is at c.in-Ok-Holding.ensures.hands_out in
    held_made c.args.seat.now c.hold.new.seat c.args.number c.in-Ok-Holding.held called out.0

pub returns-in-Ok-Holding-clause-holds : goal.returns-in-Ok-Holding-clause-holds
returns-in-Ok-Holding-clause-holds g c =
    let out = rw c.in-Ok-Holding.field-0-is at c.in-Ok-Holding.ensures.hands_out in
    held_kept c.hold.new.seat c.args.number c.args.table.now.editions c.reserve.new.self.editions c.keep.new.self.editions c.in-Ok-Holding.held c.reserve.ensures.same c.keep.ensures out.0 out.1

pub returns-in-Ok-Unpublished-clause-made : goal.returns-in-Ok-Unpublished-clause-made
returns-in-Ok-Unpublished-clause-made g c = made _ _ _ _ (rw c.in-Ok-Unpublished.field-0-is at c.in-Ok-Unpublished.ensures.called)

pub returns-in-Err-clause-made : goal.returns-in-Err-clause-made
returns-in-Err-clause-made g c = made _ _ _ _ c.in-Err.ensures.called
