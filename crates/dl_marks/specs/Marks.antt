-- Which tags stand at which numbers.
use Rattle.std.specs.Prelude.{◌≡◌, ℕ, Bool, true, false, ◌&&◌, ◌==◌, List, [], length, slice_index_or, if◌then◌else◌}
use Rattle.std.specs.Bool.{beq}
use Rattle.dl_lit.specs.declared.literal.Tag.{Tag}
use Rattle.dl_lit.specs.declared.literal.Family.{Family}
use Rattle.dl_lit.specs.declared.literal.Family.TheVariants.{Definite, Blocking, Propagating, Support}
use Rattle.dl_lit.specs.Order.{family_index}

-- whether each family is marked
pub record Families : Type 0 where
  pub definite : Bool
  pub blocking : Bool
  pub propagating : Bool
  pub support : Bool

-- the marks of one number
pub record Row : Type 0 where
  pub plus : Families
  pub minus : Families

-- the marks of each number, and which may be written
pub record Marking : Type 0 where
  pub rows : List Row
  pub owned : List Bool

abbrev pub all_alike : Bool → Families
all_alike b = record { definite = b; blocking = b; propagating = b; support = b }

abbrev pub no_row : Row
no_row = record { plus = all_alike false; minus = all_alike false }

-- the four minus tags
abbrev pub new_row : Row
new_row = record { plus = all_alike false; minus = all_alike true }

abbrev pub no_marks : Marking
no_marks = record { rows = []; owned = [] }

abbrev pub of_family : Families → Family → Bool
of_family m Definite = m.definite
of_family m Blocking = m.blocking
of_family m Propagating = m.propagating
of_family m Support = m.support

-- whether a tag stands in a row
abbrev pub mark : Row → Tag → Bool
mark row tag = of_family (if tag.plus then row.plus else row.minus) tag.family

-- how many numbers there are
abbrev pub places : Marking → ℕ
places m = length m.rows

-- whether a tag stands at a number; past the last number none does
abbrev pub marked : Marking → Tag → ℕ → Bool
marked m tag number = mark (slice_index_or m.rows number no_row) tag

-- whether the marks of a number may be written
abbrev pub is_owned : Marking → ℕ → Bool
is_owned m number = slice_index_or m.owned number false

abbrev pub IsFrozen : Marking → Type 0
IsFrozen m = (n : ℕ) → is_owned m n ≡ false

abbrev pub same_tag : Tag → Tag → Bool
same_tag t u = beq t.plus u.plus && family_index t.family == family_index u.family

-- one mark has the given value, and each other is as before
abbrev pub IsMarked : Marking → Marking → Tag → ℕ → Bool → Type 0
IsMarked old new tag number value =
    (t : Tag) (n : ℕ) → marked new t n ≡ (if same_tag t tag && n == number then value else marked old t n)
