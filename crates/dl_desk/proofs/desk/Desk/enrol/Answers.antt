use Rattle.dl_desk.proofs.Calling.{gives_start, may_give_first, stays, first_told}
use Rattle.dl_desk.proofs.desk.Desk.enrol.Goals as goal

pub give-requires-clause-start : goal.give-requires-clause-start
give-requires-clause-start g c =
    gives_start c.args.seat.now c.take-board.new.seat c.take-board.result c.enrol-number.new.self c.take-board.ensures.seat c.take-board.ensures.start c.enrol-number.ensures.start

pub give-requires-clause-may : goal.give-requires-clause-may
give-requires-clause-may g c =
    let turn = c.enrol-number.ensures in
    may_give_first c.args.seat.now c.take-board.new.seat c.take-board.result c.enrol-number.new.self c.take-board.ensures.seat c.take-board.ensures.start c.args.share.now.amount c.enrol-number.result turn.number turn.history turn.enrolled turn.kept
    c.requires.unnumbered

pub returns-clause-stays : goal.returns-clause-stays
returns-clause-stays g c =
    let turn = c.enrol-number.ensures in
    stays c.args.seat.now c.take-board.new.seat c.take-board.result c.enrol-number.new.self c.take-board.ensures.seat c.take-board.ensures.start c.give.new.seat c.give.ensures.stays c.take-board.ensures.seen turn.legal turn.start

pub returns-clause-tells : goal.returns-clause-tells
returns-clause-tells g c =
    let turn = c.enrol-number.ensures in
    (first_told c.args.seat.now c.take-board.new.seat c.take-board.result c.enrol-number.new.self c.take-board.ensures.seat c.take-board.ensures.start c.give.new.seat c.give.ensures.stays c.take-board.ensures.seen turn.legal
    c.give.ensures.as_taken c.args.share.now.amount c.enrol-number.result turn.number turn.history turn.enrolled turn.kept c.give.ensures.first_line).0

pub returns-clause-number : goal.returns-clause-number
returns-clause-number g c =
    let turn = c.enrol-number.ensures in
    (first_told c.args.seat.now c.take-board.new.seat c.take-board.result c.enrol-number.new.self c.take-board.ensures.seat c.take-board.ensures.start c.give.new.seat c.give.ensures.stays c.take-board.ensures.seen turn.legal
    c.give.ensures.as_taken c.args.share.now.amount c.enrol-number.result turn.number turn.history turn.enrolled turn.kept c.give.ensures.first_line).1
