use Rattle.std.proofs.Common.{◌≡◌, length, subst, arith}
use Rattle.dl_board.specs.Boards.{BoardLists}
use Rattle.dl_board.proofs.Keeping.{state, edition_count}
use Rattle.dl_board.proofs.board.Board.published.Goals as goal

pub returns : goal.returns
returns g c =
    subst (λ (V : BoardLists). c.len.result ≡ length (state V).editions) c.self.view_is
    (omega (arith, c.len.ensures, c.self.inside.editions.ok.0, edition_count _ _ _ _ c.self.invariant))
