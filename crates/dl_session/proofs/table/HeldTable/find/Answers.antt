use Rattle.std.proofs.Common.{◌∙◌, ap, sym, subst, Some, get_or}
use Rattle.std.specs.Prelude.{List}
use Rattle.dl_edition.specs.Editions.{EditionLists}
use Rattle.dl_session.specs.Table.{TableView, IsRising}
use Rattle.dl_session.proofs.Searched.{theory_at, theory_in_gap}
use Rattle.dl_session.proofs.table.HeldTable.find.Goals as goal

pub returns-in-Ok : goal.returns-in-Ok
returns-in-Ok c =
    let view = ap (λ (t : TableView). t.editions) c.self.view_is in
    let rising = subst IsRising view c.self.invariant in
    theory_at c.args.self.now.editions rising c.args.number c.in-Ok.at c.in-Ok.ensures.found c.index.result.now
    ∙ ap (λ (x : EditionLists). Some x.theory) (ap (λ (l : List EditionLists). get_or l c.in-Ok.at c.index.result.now) (sym view) ∙ sym c.index.ensures)

pub returns-in-Err : goal.returns-in-Err
returns-in-Err c = theory_in_gap _ _ _ c.in-Err.ensures.absent
