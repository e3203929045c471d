use Rattle.std.proofs.Common.{◌≡◌, ◌<◌, length, sym, subst, arith}
use Rattle.std.specs.Prelude.{Some, slice_get}
use Rattle.dl_board.specs.Boards.{BoardLists}
use Rattle.dl_board.proofs.Keeping.{state, edition_count}
use Rattle.dl_board.proofs.Numbering.{held_number, held_theory, edition_at}
use Rattle.dl_board.proofs.board.Board.held.Goals as goal

pub index-requires : goal.index-requires
index-requires g c =
    let lt = subst (λ (V : BoardLists). c.args.number < length (state V).editions) (sym c.self.view_is) c.requires in
    omega (arith, lt, c.self.inside.editions.ok.0, edition_count _ _ _ _ c.self.invariant)

pub returns-clause-number : goal.returns-clause-number
returns-clause-number g c =
    let lt = subst (λ (V : BoardLists). c.args.number < length (state V).editions) (sym c.self.view_is) c.requires in
    held_number _ c.index.result.now c.args.number c.copy.ensures
    (edition_at _ _ c.args.number c.index.result.now lt c.self.invariant.editions_are c.index.ensures).0

pub returns-clause-theory : goal.returns-clause-theory
returns-clause-theory g c =
    let lt = subst (λ (V : BoardLists). c.args.number < length (state V).editions) (sym c.self.view_is) c.requires in
    held_theory _ (state c.args.self.now).editions c.index.result.now c.args.number c.copy.ensures
    (subst (λ (V : BoardLists). slice_get (state V).editions c.args.number ≡ Some c.index.result.now.theory) c.self.view_is
    (edition_at _ _ c.args.number c.index.result.now lt c.self.invariant.editions_are c.index.ensures).1)
