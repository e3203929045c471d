use Rattle.std.proofs.Common.{ℕ, sym, subst}
use Rattle.dl_turn.specs.History.{AllBelow}
use Rattle.dl_calls.specs.declared.entry.Entry.{Entry}
use Rattle.dl_board.specs.Boards.{BoardLists}
use Rattle.dl_board.proofs.board.BoardChronicle.enrolled.Goals as goal

pub returns-clause-lines : goal.returns-clause-lines
returns-clause-lines g c =
    let i = c.self.inside in
    subst (λ (V : BoardLists). AllBelow (λ (e : Entry). e.seat) V.enrolled V.history) c.self.view_is
    (subst (λ (n : ℕ). AllBelow (λ (e : Entry). e.seat) n i.entries.items) (sym c.self.invariant.count_is)
    (c.seats_are_enrolled.ensures i.start i.entries.items c.self.invariant.legal))
