use Rattle.std.proofs.Common.{◌≡◌, ◌∙◌, ap, sym, Some}
use Rattle.dl_edition.specs.Offices.{SeatLists}
use Rattle.dl_desk.proofs.Calling.{turn_starts, gives_start, may_give, called, handed_out, turn_suits}
use Rattle.dl_desk.proofs.desk.Desk.called.Goals as goal

pub give-requires-clause-start : goal.give-requires-clause-start
give-requires-clause-start g c =
    let turn = c.counted_turn-turned in
    gives_start c.args.seat.now c.take-board.new.seat c.take-board.result turn.new.board c.take-board.ensures.seat c.take-board.ensures.start (turn_starts c.take-board.result turn.new.board c.in-Some.number c.args.call turn.result turn.ensures.answered turn.ensures.kept)

pub give-requires-clause-may : goal.give-requires-clause-may
give-requires-clause-may g c =
    let turn = c.counted_turn-turned in
    let number : c.args.seat.now.number ≡ Some c.in-Some.number =
    sym (ap (λ (s : SeatLists). s.number) c.take-board.ensures.seat) ∙ sym c.number.ensures ∙ c.in-Some.is in
    may_give c.args.seat.now c.take-board.new.seat c.take-board.result turn.new.board c.take-board.ensures.seat c.take-board.ensures.start c.in-Some.number c.args.call turn.result turn.ensures.answered turn.ensures.kept number

pub returns-clause-called : goal.returns-clause-called
returns-clause-called g c =
    let turn = c.counted_turn-turned in
    let number : c.args.seat.now.number ≡ Some c.in-Some.number =
    sym (ap (λ (s : SeatLists). s.number) c.take-board.ensures.seat) ∙ sym c.number.ensures ∙ c.in-Some.is in
    called c.args.seat.now c.take-board.new.seat c.take-board.result turn.new.board c.take-board.ensures.seat c.take-board.ensures.start c.give.new.seat c.give.ensures.stays c.take-board.ensures.seen turn.ensures.legal
    c.give.ensures.as_taken c.in-Some.number c.args.call turn.result turn.ensures.answered turn.ensures.kept number c.give.ensures.own_line

pub returns-clause-suits : goal.returns-clause-suits
returns-clause-suits g c =
    let turn = c.counted_turn-turned in
    turn_suits c.take-board.result turn.new.board c.in-Some.number c.args.call turn.result c.requires.call turn.ensures.answered turn.ensures.legal

pub returns-clause-hands_out : goal.returns-clause-hands_out
returns-clause-hands_out g c =
    let turn = c.counted_turn-turned in
    handed_out c.args.seat.now c.take-board.new.seat c.take-board.result turn.new.board c.take-board.ensures.seat c.take-board.ensures.start c.give.new.seat c.give.ensures.stays c.take-board.ensures.seen turn.ensures.legal
    c.in-Some.number c.args.call turn.result turn.ensures.answered
