use Rattle.std.proofs.Common.{◌≤◌, sym, subst}
use Rattle.dl_marks.specs.Marks.{Marking, places}
use Rattle.dl_marks.proofs.RowLemmas.{row_new}
use Rattle.dl_marks.proofs.marks.Marks.grown.Goals as goal

pub returns-clause-fresh : goal.returns-clause-fresh
returns-clause-fresh g c = λ t n old within.
    row_new c.self.inside.bytes.items c.widen.new.self.items c.args.len t n c.in_ok-widen.ensures.items
    (subst (λ (m : Marking). places m ≤ n) (sym c.self.view_is) old) within
