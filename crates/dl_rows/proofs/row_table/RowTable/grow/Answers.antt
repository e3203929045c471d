use Rattle.std.proofs.Common.{sym, ap, ◌∙◌, refl}
use Rattle.dl_rows.specs.Tables.{RowLists}
use Rattle.dl_rows.specs.TablesView.{packed_table}
use Rattle.dl_rows.proofs.FormLemmas.{packed_keeps}
use Rattle.dl_rows.proofs.row_table.RowTable.grow.Goals as goal
use Rattle.dl_rows.proofs.row_table.RowTable.grow.Goals.{in-Packed+in_ok-open-in-Packed, in-Shared+in_ok-open-in-Shared}

pub returns-clause-kept : goal.returns-clause-kept
returns-clause-kept c =
    elim c.match-self.branch [
      | in-Packed+in_ok-open-in-Packed w ↦
          packed_keeps c.args.self.now c.self.inside.rows _ w.in-Packed.rows c.match-self.open c.grow-2.new.self c.self.view_is w.in-Packed.is refl
          (ap (λ (t : RowLists). t.lists) w.open-is ∙ w.in_ok-open-in-Packed.ensures) c.grow-2.ensures.kept
      | in-Shared+in_ok-open-in-Shared w ↦
          packed_keeps c.args.self.now c.self.inside.rows _ w.deref.result.now c.match-self.open c.grow-2.new.self c.self.view_is w.in-Shared.is (ap packed_table (sym w.deref.ensures))
          (ap (λ (t : RowLists). t.lists) w.open-is ∙ w.in_ok-open-in-Shared.ensures) c.grow-2.ensures.kept
    ]
