use Rattle.std.proofs.Common.{sym, subst}
use Rattle.dl_turn.specs.History.{AllBelow}
use Rattle.dl_calls.specs.Histories.{IsLegal}
use Rattle.dl_sessions.specs.Ending.{Closes}
use Rattle.dl_sessions.proofs.serve.closed.Goals as goal

pub returns-clause-closes : goal.returns-clause-closes
returns-clause-closes g c =
    let end = c.finish-board.ensures in
    subst (λ b. Closes c.args.base.start c.args.base b.history b.enrolled) (sym c.audit.ensures.board)
    (record { legal = subst (λ S. IsLegal S c.finish-board.result.0.history) end.start end.legal; seen = end.seen; lines = end.olds })

pub returns-clause-below : goal.returns-clause-below
returns-clause-below g c =
    subst (λ n. AllBelow (λ e. e.seat) n c.audit.new.self.history) c.audit.ensures.enrolled
    (subst (λ b. AllBelow (λ e. e.seat) b.enrolled b.history) (sym c.audit.ensures.board) c.finish-board.ensures.lines)
