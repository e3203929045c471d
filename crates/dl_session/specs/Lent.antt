-- What a sink tells that is lent for one reply. Only the code needs these.
use Rattle.std.specs.Prelude.{◌≡◌, ℕ, List, [], ◌∷◌, ◌++◌, length, suc, drop, Option, Some, None}
use Rattle.std.specs.Io.KnownBytes.{append_known}

-- what is known now behind as many bytes as were known
abbrev pub known_after : Option (List ℕ) → Option (List ℕ) → List ℕ
known_after None now = []
known_after (Some bytes) None = []
known_after (Some bytes) (Some now) = drop (length bytes) now

-- What was handed on is still handed on, and maybe more. It is one equation, so that a type can keep it.
abbrev pub StillHands : Option (List ℕ) → Option (List ℕ) → Type 0
StillHands was now = now ≡ append_known was (known_after was now)

-- a name that tells which reference a sink was lent by, the sink's own name, and what it had handed on
abbrev pub lent_name : ℕ → List ℕ → Option (List ℕ) → List ℕ
lent_name reference name None = reference ∷ 0 ∷ name
lent_name reference name (Some bytes) = reference ∷ suc (length name) ∷ name ++ bytes
