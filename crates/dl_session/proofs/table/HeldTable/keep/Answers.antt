use Rattle.std.proofs.Common.{ap, sym, subst}
use Rattle.std.specs.Prelude.{List}
use Rattle.dl_edition.specs.Editions.{EditionLists}
use Rattle.dl_session.specs.Table.{TableView, IsAt, IsGapFor}
use Rattle.dl_session.proofs.Searched.{gains_set, rising_set, gains_insert, rising_insert}
use Rattle.dl_session.proofs.table.HeldTable.keep.Goals as goal

pub invariant_of-self : goal.invariant_of-self
invariant_of-self c =
    let view = ap (λ (t : TableView). t.editions) c.self.view_is in
    let at = subst (λ (l : List EditionLists). IsAt l c.number.result c.in-Ok.at) (sym view) c.in-Ok.ensures.found in
    rising_set c.self.inside.editions.items c.self.invariant c.args.held c.in-Ok.at (rw (← c.number.ensures) at)

pub returns-in-Ok : goal.returns-in-Ok
returns-in-Ok c =
    let view = ap (λ (t : TableView). t.editions) c.self.view_is in
    let at = subst (λ (l : List EditionLists). IsAt l c.number.result c.in-Ok.at) (sym view) c.in-Ok.ensures.found in
    rw (← view) (gains_set c.self.inside.editions.items c.self.invariant c.args.held c.in-Ok.at (rw (← c.number.ensures) at))

pub invariant_of-self-in-Ok-insert : goal.invariant_of-self-in-Ok-insert
invariant_of-self-in-Ok-insert c =
    let view = ap (λ (t : TableView). t.editions) c.self.view_is in
    let gap = subst (λ (l : List EditionLists). IsGapFor l c.number.result c.in-Err.at) (sym view) c.in-Err.ensures.absent in
    rw c.in-Ok-insert.ensures.items (rising_insert c.self.inside.editions.items c.args.held c.in-Err.at (rw (← c.number.ensures) gap) c.self.invariant)

pub returns-in-Ok-insert : goal.returns-in-Ok-insert
returns-in-Ok-insert c =
    let view = ap (λ (t : TableView). t.editions) c.self.view_is in
    let gap = subst (λ (l : List EditionLists). IsGapFor l c.number.result c.in-Err.at) (sym view) c.in-Err.ensures.absent in
    rw (c.in-Ok-insert.ensures.items, ← view) (gains_insert c.self.inside.editions.items c.args.held c.in-Err.at (rw (← c.number.ensures) gap))
