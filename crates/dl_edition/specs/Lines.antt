-- The lines of what stands at numbers of which some are empty.
use Rattle.std.specs.Prelude.{ℕ, List, [], Option, None, Some}

-- nothing at an empty number
abbrev pub slot_text : {A : Type 0} → (A → List ℕ) → Option A → List ℕ
slot_text text None = []
slot_text text (Some x) = text x
