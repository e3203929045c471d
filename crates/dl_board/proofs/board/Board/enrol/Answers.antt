use Rattle.std.proofs.Common.{◌≡◌, ◌+◌, List, subst, sym, refl, arith}
use Rattle.dl_calls.specs.declared.entry.Entry.{Entry}
use Rattle.dl_board.specs.Kept.{IsKept}
use Rattle.dl_board.proofs.Keeping.{keeps_enrolled}
use Rattle.dl_board.proofs.board.Board.enrol.Goals as goal

pub invariant_of-self-2 : goal.invariant_of-self-2
invariant_of-self-2 g c =
    let i = c.self.inside in
    let total : c.add.new.self.total ≡ i.count + 1 = omega (arith, c.add.ensures.total, c.audit.ensures.total, c.self.invariant.total_is) in
    subst (λ (h : List Entry). IsKept (record { start = i.start; history = h; enrolled = i.count + 1; names = i.draft.names }) i.draft.theory i.editions.items c.add.new.self.total)
    (sym c.in_ok-push.ensures.items) (keeps_enrolled _ _ _ _ c.self.invariant c.add.new.self.total (i.count + 1) refl total)

pub returns-clause-legal : goal.returns-clause-legal
returns-clause-legal g c = (invariant_of-self-2 g c).legal
