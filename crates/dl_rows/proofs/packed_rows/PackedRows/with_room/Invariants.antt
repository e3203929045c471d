use Rattle.std.proofs.Common.{◌≡◌, length}
use Rattle.std.specs.Prelude.{All}
use Rattle.dl_rows.specs.Packed.{ArePacked}
use Rattle.dl_rows.proofs.packed_rows.PackedRows.with_room.Given as goal

abbrev pub invariant-loop-count : goal.invariant-loop-count
invariant-loop-count l = record {
  packed : ArePacked l.spans.items l.room;
  none : All (λ s. s.len ≡ 0) l.spans.items;
  long : length l.spans.items ≡ l.count-index;
}
