-- The forms of a table.
use Rattle.std.proofs.Common.{◌≡◌, ℕ, List, ◌⊎◌, inl, inr, sym, ap, subst, ◌∙◌, Global}
use Rattle.std.specs.Arc.{arc_value}
use Rattle.std.specs.declared.sync.Arc.{Arc}
use Rattle.dl_rows.specs.declared.packed_rows.PackedRows.{PackedRows}
use Rattle.dl_rows.specs.declared.row_table.Rows.{Rows}
use Rattle.dl_rows.specs.declared.row_table.Rows.TheVariants.{Packed, Shared}
use Rattle.dl_rows.specs.Tables.{RowLists, KeepsLists, spare_at}
use Rattle.dl_rows.specs.TablesView.{packed_table, table_of}
use Rattle.dl_rows.proofs.TableLemmas.{constant_at, opened_keeps}

-- no list has room where they stand packed
pub packed_full : (rows : Rows) → ((x : PackedRows) × rows ≡ Packed x) ⊎ ((x : Arc PackedRows Global) × rows ≡ Shared x) → (n : ℕ)
    → spare_at (table_of rows) n ≡ 0
packed_full rows (inl p) n = ap (λ (r : Rows). spare_at (table_of r) n) p.1 ∙ constant_at {Y = ℕ} 0 p.0 n
packed_full rows (inr p) n = ap (λ (r : Rows). spare_at (table_of r) n) p.1 ∙ constant_at {Y = ℕ} 0 (arc_value p.0) n

-- packed lists are kept where they are opened, in either form
pub packed_keeps : (t : RowLists) (rows form : Rows) (lists : List (List ℕ)) (opened new : RowLists) → table_of rows ≡ t → rows ≡ form
    → table_of form ≡ packed_table lists → opened.lists ≡ lists → KeepsLists opened new → KeepsLists t new
packed_keeps t rows form lists opened new view is packed same h =
    subst (λ (u : RowLists). KeepsLists u new) (sym packed ∙ sym (ap table_of is) ∙ view) (opened_keeps lists opened new same h)
