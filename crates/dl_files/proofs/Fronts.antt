-- Lemmas on what a sink handed on.
use Rattle.std.proofs.Common.{◌≡◌, ℕ, List, ◌++◌, Option, None, Some, refl, ap, ◌∙◌, append_assoc}
use Rattle.dl_io.specs.Streams.{IsFront, IsKnownFront}

-- of a front of a text, a front was handed on
pub handed_front : (handed : Option (List ℕ)) (written text : List ℕ) → IsKnownFront handed (Some written) → IsFront written text → (front : List ℕ) × (handed ≡ Some front) × IsFront front text
handed_front None written text known begun = absurd (cc (known.1))
handed_front (Some front) written text known begun =
    let same : written ≡ front ++ known.0 = cc (known.1) in
    (front, refl, (known.0 ++ begun.0, begun.1 ∙ ap (λ l. l ++ begun.0) same ∙ append_assoc front known.0 begun.0))
