use Rattle.dl_gen.proofs.OneSeat.{is_generated}
use Rattle.dl_gen.proofs.run.board_of.Goals as goal

pub returns : goal.returns
returns g c =
    is_generated c.args.seed c.args.size c.in_ok-theory.theory c.in_ok-calls.calls.items c.in_ok-board.board c.in_ok-theory.ensures.theory
    c.in_ok-calls.ensures.calls c.in_ok-board.ensures
