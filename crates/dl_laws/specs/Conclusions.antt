-- Laws of what follows and of gaps, for every theory.
use Rattle.std.specs.Prelude.{◌⊎◌, Bool, false, IsTrue, List}
use Rattle.dl_lit.specs.declared.literal.Literal.{Literal}
use Rattle.dl_lit.specs.declared.literal.Tagged.{Tagged}
use Rattle.dl_lit.specs.declared.literal.Family.{Family}
use Rattle.dl_lit.specs.Literal.{tagged}
use Rattle.dl_theory.specs.declared.answer.Verdict.TheVariants.{Neither}
use Rattle.dl_theory.specs.Lists.{TheoryLists}
use Rattle.dl_theory.specs.Conditions.{Meets}
use Rattle.dl_theory.specs.Derivations.{Follows, IsGap}
use Rattle.dl_theory.specs.Listings.{Occurs, IsTable}
use Rattle.dl_theory.specs.Verdicts.{IsVerdict, IsExactGap}

-- where neither tag of q follows, the list of what matters for q and does not follow is a gap
abbrev pub ExactGapsAreGaps : TheoryLists → Type 0
ExactGapsAreGaps T = (f : Family) (q : Literal) (members : List Tagged) → IsVerdict T f q Neither → IsExactGap T f q members → IsGap T members

-- a set that has all that meets its condition over the set
abbrev pub IsClosedSet : TheoryLists → (Tagged → Type 0) → Type 0
IsClosedSet T C = (x : Tagged) → Meets T C x → C x

-- What follows is closed, each of it meets its condition over it, and every closed set that a test decides has all of it. It is such a set:
-- there is a table of it, and of each tagged literal it is decided whether it follows.
pub record FollowsIsLeast (T : TheoryLists) : Type 0 where
  pub closed : IsClosedSet T (Follows T)
  pub founded : (x : Tagged) → Follows T x → Meets T (Follows T) x
  pub least : (C : Tagged → Bool) → IsClosedSet T (λ x. IsTrue (C x)) → (x : Tagged) → Follows T x → IsTrue (C x)
  pub has_table : (xs : List Tagged) × IsTable T xs
  pub decided : (x : Tagged) → Follows T x ⊎ (¬ Follows T x)

-- a literal that does not occur is refuted in every family
abbrev pub UnmentionedAreRefuted : TheoryLists → Type 0
UnmentionedAreRefuted T = (q : Literal) → (¬ Occurs T q) → (f : Family) → Follows T (tagged false f q)
