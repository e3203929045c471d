-- The derivation of a literal that does not occur.
use Rattle.std.specs.Prelude.{false, List, [], ◌∷◌}
use Rattle.dl_lit.specs.declared.literal.Literal.{Literal}
use Rattle.dl_lit.specs.declared.literal.Tagged.{Tagged}
use Rattle.dl_lit.specs.declared.literal.Family.{Family}
use Rattle.dl_lit.specs.declared.literal.Family.TheVariants.{Definite, Blocking, Propagating, Support}
use Rattle.dl_lit.specs.Literal.{tagged}

-- refuted in the definite family, and behind it in its own
abbrev pub refuted_steps : Family → Literal → List Tagged
refuted_steps Definite q = tagged false Definite q ∷ []
refuted_steps Blocking q = tagged false Definite q ∷ tagged false Blocking q ∷ []
refuted_steps Propagating q = tagged false Definite q ∷ tagged false Propagating q ∷ []
refuted_steps Support q = tagged false Definite q ∷ tagged false Support q ∷ []
