-- Texts in memory that has room for them.
use Rattle.std.specs.Prelude.{◌≡◌, ℕ, ◌+◌, ◌≤◌, List, ◌++◌, length, Vec, Option, None, Some}
use Rattle.std.specs.Vec.{vec_len, vec_capacity}
use Rattle.std.specs.declared.alloc.Global.{Global}
use Rattle.dl_lit.specs.declared.literal.Literal.{Literal}

-- there is room for the bytes behind the text
abbrev pub HasRoom : Vec ℕ Global → List ℕ → Type 0
HasRoom text bytes = vec_len text + length bytes ≤ vec_capacity text

-- the bytes were put behind the text, into room that was there
abbrev pub Puts : Vec ℕ Global → Vec ℕ Global → List ℕ → Type 0
Puts old new bytes = (new.items ≡ old.items ++ bytes) × (vec_len new ≡ vec_len old + length bytes) × (vec_capacity new ≡ vec_capacity old)

-- as many bytes as a mode takes beside its brackets
abbrev pub mode_room : Option (List ℕ) → ℕ
mode_room None = 0
mode_room (Some mode) = length mode

-- as many bytes as a conclusion on a literal takes at most: the verdict, the brackets and the sign take six
abbrev pub conclusion_room : Literal → ℕ
conclusion_room q = 6 + mode_room q.mode + length q.atom
