-- The marks of a number as the bits of a byte.
use Rattle.std.specs.Prelude.{ℕ, ◌+◌, ◌==◌, Bool, if◌then◌else◌}
use Rattle.std.specs.Int.{bit_at}
use Rattle.dl_lit.specs.declared.literal.Tag.{Tag}
use Rattle.dl_lit.specs.Order.{family_index}
use Rattle.dl_marks.specs.Marks.{Families, Row}

-- the place of a tag's bit
abbrev pub place : Tag → ℕ
place tag = (if tag.plus then 0 else 4) + family_index tag.family

abbrev pub has_bit : ℕ → ℕ → Bool
has_bit byte i = bit_at byte i == 1

-- four bits, from a place on
abbrev pub families_of : ℕ → ℕ → Families
families_of byte i = record {
  definite = has_bit byte i;
  blocking = has_bit byte (i + 1);
  propagating = has_bit byte (i + 2);
  support = has_bit byte (i + 3);
}

abbrev pub row_of : ℕ → Row
row_of byte = record { plus = families_of byte 0; minus = families_of byte 4 }
