use Rattle.std.proofs.Common.{refl, ap, Some}
use Rattle.dl_session.proofs.Serving.{replies_long, serves_by}
use Rattle.dl_session.proofs.session.serve_next.Goals as goal

pub returns-in-Over-clause-serves : goal.returns-in-Over-clause-serves
returns-in-Over-clause-serves g c = λ before keeps. rw c.in-Over.is (ap Some c.end_after.ensures, refl, refl, refl)

pub returns-in-Long-clause-serves : goal.returns-in-Long-clause-serves
returns-in-Long-clause-serves g c = λ before keeps. rw c.in-Long.is (
  (λ long past.
      serves_by before long c.args.seat.now c.args.seat.now c.args.room.now.table.editions _ _ _ _ (replies_long before long c.args.seat.now c.args.room.now.table.editions c.requires.may.within past keeps) c.reply.ensures.sends),
  c.reply.ensures.cause,
)

pub returns-in-Line-clause-serves : goal.returns-in-Line-clause-serves
returns-in-Line-clause-serves g c = λ before keeps.
    rw c.in-Line.is (rw c.line.ensures at c.serve_line.ensures.serves before keeps, c.serve_line.ensures.cause)
