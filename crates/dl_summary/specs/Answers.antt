-- Accepted answers, on the way to a survey.
use Rattle.std.specs.Prelude.{◌≡◌, List, ◌++◌, map}
use Rattle.std.specs.List.{AllZip}
use Rattle.dl_lit.specs.declared.literal.Literal.{Literal}
use Rattle.dl_lit.specs.declared.literal.Family.{Family}
use Rattle.dl_lit.specs.declared.literal.Family.TheVariants.{Definite, Blocking, Propagating, Support}
use Rattle.dl_theory.specs.declared.answer.Verdict.{Verdict}
use Rattle.dl_theory.specs.Lists.{TheoryLists}
use Rattle.dl_theory.specs.Verdicts.{IsVerdict}
use Rattle.dl_check.specs.declared.accepted.Accepted.{Accepted}
use Rattle.dl_summary.specs.declared.counts.Survey.{Survey}
use Rattle.dl_summary.specs.declared.families.Answers.{Answers}
use Rattle.dl_summary.specs.declared.families.Families.{Families}
use Rattle.dl_summary.specs.Survey.{counts_of}

abbrev pub verdict_of : Accepted → Verdict
verdict_of a = a.verdict

-- the accepted answer about q
pub record IsAnswer (T : TheoryLists) (f : Family) (q : Literal) (a : Accepted) : Type 0 where
  pub family : a.family ≡ f
  pub literal : a.literal ≡ q
  pub right : IsVerdict T f q a.verdict

-- one about each literal, in order
abbrev pub AreAnswers : TheoryLists → Family → List Literal → List Accepted → Type 0
AreAnswers T f qs answers = AllZip (IsAnswer T f) qs answers

-- the accepted answers about q, one in each family
pub record IsAnswered (T : TheoryLists) (q : Literal) (a : Answers) : Type 0 where
  pub definite : IsAnswer T Definite q a.definite
  pub blocking : IsAnswer T Blocking q a.blocking
  pub propagating : IsAnswer T Propagating q a.propagating
  pub support : IsAnswer T Support q a.support

-- those about each literal, in order
abbrev pub AreAnswered : TheoryLists → List Literal → List Answers → Type 0
AreAnswered T qs each = AllZip (IsAnswered T) qs each

-- the same answers, put by their families
pub record AreFamilies (each : List Answers) (families : Families) : Type 0 where
  pub definite : families.definite.items ≡ map (λ a. a.definite) each
  pub blocking : families.blocking.items ≡ map (λ a. a.blocking) each
  pub propagating : families.propagating.items ≡ map (λ a. a.propagating) each
  pub support : families.support.items ≡ map (λ a. a.support) each

-- the survey of the answers in each family
pub record IsSurveyOf (families : Families) (s : Survey) : Type 0 where
  pub definite_counts : s.definite ≡ counts_of (map verdict_of families.definite.items)
  pub blocking_counts : s.blocking ≡ counts_of (map verdict_of families.blocking.items)
  pub propagating_counts : s.propagating ≡ counts_of (map verdict_of families.propagating.items)
  pub support_counts : s.support ≡ counts_of (map verdict_of families.support.items)
  pub checked : s.checked.items ≡ families.definite.items ++ families.blocking.items ++ families.propagating.items ++ families.support.items
