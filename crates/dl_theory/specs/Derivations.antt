-- Derivations, what follows, and gaps.
use Rattle.std.specs.Prelude.{◌≢◌, List, [], ◌∷◌, ◌++◌, All, Contains}
use Rattle.dl_lit.specs.declared.literal.Tagged.{Tagged}
use Rattle.dl_base.specs.Paths.{IsDistinct}
use Rattle.dl_theory.specs.Lists.{TheoryLists}
use Rattle.dl_theory.specs.Conditions.{Meets}

-- each member of the rest is new, and meets its condition over those before it
abbrev pub Derives : TheoryLists → List Tagged → List Tagged → Type 0
Derives T before [] = Unit {0}
Derives T before (x ∷ rest) = (¬ Contains before x) × Meets T (Contains before) x × Derives T (before ++ x ∷ []) rest

abbrev pub IsDerivation : TheoryLists → List Tagged → Type 0
IsDerivation T steps = Derives T [] steps

-- some derivation ends with x
pub record Follows (T : TheoryLists) (x : Tagged) : Type 0 where
  pub before : List Tagged
  pub derivation : IsDerivation T (before ++ x ∷ [])

-- no member meets its condition where exactly the members count as not derived
pub record IsGap (T : TheoryLists) (members : List Tagged) : Type 0 where
  pub some : members ≢ []
  pub distinct : IsDistinct members
  pub unmet : All (λ x. ¬ Meets T (λ y. ¬ Contains members y) x) members
