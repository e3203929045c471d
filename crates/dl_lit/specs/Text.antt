-- The bytes of a name, in place or shared.
use Rattle.std.specs.Prelude.{ℕ, List, take}
use Rattle.std.specs.Arc.{arc_slice_items}
use Rattle.dl_lit.specs.declared.text.Short.{Short}
use Rattle.dl_lit.specs.declared.text.Text.{Text}
use Rattle.dl_lit.specs.declared.text.Text.TheVariants as text

abbrev pub short_bytes : Short → List ℕ
short_bytes s = take s.len s.bytes

abbrev pub text_bytes : Text → List ℕ
text_bytes (text.Short s) = short_bytes s
text_bytes (text.Long it) = arc_slice_items it
