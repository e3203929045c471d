-- The table of the bytes that go on with a name.
use Rattle.std.proofs.Common.{◌≡◌, ℕ, ◌<◌, Bool, false, List, map, get_or, ap, refl, ◌∙◌, arith}
use Rattle.std.specs.List.{range_with_len}
use Rattle.std.proofs.lemmas.List.FromFn.{get_or-map-range_with_len}
use Rattle.dl_lit.specs.Name.{continues_name}
use Rattle.dl_lit.specs.declared.name.TheConstants.{NAME_BYTES}

table_is_rule : NAME_BYTES ≡ map continues_name (range_with_len 0 256)
table_is_rule = refl

pub name_byte : (b : ℕ) → b < 256 → get_or NAME_BYTES b false ≡ continues_name b
name_byte b within = ap (λ (l : List Bool). get_or l b false) table_is_rule ∙ get_or-map-range_with_len continues_name 0 256 b b false within (omega arith)
