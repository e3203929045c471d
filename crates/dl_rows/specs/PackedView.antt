-- How the fields of packed lists hold them.
use Rattle.std.specs.Prelude.{ℕ, ◌<◌, ◌^◌, List, map, length}
use Rattle.dl_rows.specs.declared.packed_rows.PackedRows.TheInside.{Inside}
use Rattle.dl_rows.specs.Packed.{in_span, ArePacked}

abbrev pub packed_of : Inside → List (List ℕ)
packed_of t = map (in_span t.items.items) t.spans.items

-- places have 32 bits
pub record IsKeptPacked (t : Inside) : Type 0 where
  pub packed : ArePacked t.spans.items (length t.items.items)
  pub few : length t.items.items < 2 ^ 32
