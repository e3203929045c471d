-- What a family's conclusions stand on.
use Rattle.std.proofs.Common.{refl, arith}
use Rattle.std.specs.Prelude.{Contains}
use Rattle.dl_lit.specs.declared.literal.Family.{Family}
use Rattle.dl_lit.specs.declared.literal.Family.TheVariants.{Definite, Blocking, Propagating, Support}
use Rattle.dl_theory.specs.Verdicts.{needs}

-- each family needs itself
pub needs_itself : (f : Family) → Contains (needs f) f
needs_itself Definite = (0, omega arith, refl)
needs_itself Blocking = (1, omega arith, refl)
needs_itself Propagating = (1, omega arith, refl)
needs_itself Support = (2, omega arith, refl)
