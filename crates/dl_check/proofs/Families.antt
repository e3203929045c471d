-- The conditions of blocking and of propagating are one.
use Rattle.std.proofs.Common.{◌≡◌, Bool, true, false, refl}
use Rattle.dl_lit.specs.declared.literal.Literal.{Literal}
use Rattle.dl_lit.specs.declared.literal.Tagged.{Tagged}
use Rattle.dl_lit.specs.declared.literal.Family.TheVariants.{Blocking, Propagating, Support}
use Rattle.dl_theory.specs.Lists.{TheoryLists}
use Rattle.dl_theory.specs.Tests as test
use Rattle.dl_check.specs.Supports.{test_defeasible}

pub blocking_is : (T : TheoryLists) (got : Tagged → Bool) (p : Bool) (q : Literal) → test_defeasible T got p Blocking Blocking q ≡ test.condition T got p Blocking q
blocking_is T got true q = refl
blocking_is T got false q = refl

pub propagating_is : (T : TheoryLists) (got : Tagged → Bool) (p : Bool) (q : Literal) → test_defeasible T got p Propagating Support q ≡ test.condition T got p Propagating q
propagating_is T got true q = refl
propagating_is T got false q = refl
