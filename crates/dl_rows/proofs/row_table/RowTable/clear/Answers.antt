use Rattle.std.proofs.Common.{◌≡◌, ◌<◌, sym, ap, ◌∙◌, arith}
use Rattle.dl_rows.specs.Tables.{RowLists, spare_at}
use Rattle.dl_rows.proofs.FormLemmas.{packed_full}
use Rattle.dl_rows.proofs.row_table.RowTable.clear.Goals as goal

pub unreachable-requires : goal.unreachable-requires
unreachable-requires c =
    let full : spare_at c.args.self.now c.args.number ≡ 0 =
    ap (λ (t : RowLists). spare_at t c.args.number) (sym c.self.view_is) ∙ packed_full c.self.inside.rows c.in-Packed.is c.args.number in
    let some : 0 < spare_at c.args.self.now c.args.number = c.requires (omega (arith, c.if-number-len.false, c.len.ensures)) in
    omega (arith, full, some)
