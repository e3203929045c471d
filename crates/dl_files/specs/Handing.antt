-- What was written is handed on.
use Rattle.std.specs.Prelude.{◌≡◌, ℕ, List, Option, Result, MatchResult}
use Rattle.dl_io.specs.Streams.{IsKnownFront}

-- Ok handed on all that was written, and a failure a front of it.
abbrev pub HandsOn : {T E : Type 0} → Option (List ℕ) → Option (List ℕ) → Result T E → Type 0
HandsOn handed written result = MatchResult result (λ _. handed ≡ written) (λ _. IsKnownFront handed written)
