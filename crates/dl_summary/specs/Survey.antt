-- The survey of a theory: how many literals are proved, refuted and neither in each family, and which answers were checked.
use Rattle.std.specs.Prelude.{◌≡◌, ◌≤◌, ◌*◌, Bool, true, false, List, ◌++◌, map, length, count_by}
use Rattle.dl_lit.specs.declared.literal.Literal.{Literal}
use Rattle.dl_lit.specs.declared.literal.Family.{Family}
use Rattle.dl_lit.specs.declared.literal.Family.TheVariants.{Definite, Blocking, Propagating, Support}
use Rattle.dl_theory.specs.declared.answer.Verdict.{Verdict}
use Rattle.dl_theory.specs.declared.answer.Verdict.TheVariants.{Proved, Refuted, Neither}
use Rattle.dl_theory.specs.Lists.{TheoryLists}
use Rattle.dl_conclusions.specs.declared.conclusion.Conclusion.{Conclusion}
use Rattle.dl_conclusions.specs.Conclusions.{AreConclusions}
use Rattle.dl_check.specs.declared.accepted.Accepted.{Accepted}
use Rattle.dl_summary.specs.declared.counts.Counts.{Counts}
use Rattle.dl_summary.specs.declared.counts.Survey.{Survey}

abbrev pub is_proved : Verdict → Bool
is_proved Proved = true
is_proved Refuted = false
is_proved Neither = false

abbrev pub is_refuted : Verdict → Bool
is_refuted Proved = false
is_refuted Refuted = true
is_refuted Neither = false

abbrev pub is_neither : Verdict → Bool
is_neither Proved = false
is_neither Refuted = false
is_neither Neither = true

-- how many verdicts are of each kind
abbrev pub counts_of : List Verdict → Counts
counts_of vs = record { proved = count_by is_proved vs; refuted = count_by is_refuted vs; neither = count_by is_neither vs }

abbrev pub counts_in : Survey → Family → Counts
counts_in s Definite = s.definite
counts_in s Blocking = s.blocking
counts_in s Propagating = s.propagating
counts_in s Support = s.support

-- a conclusion in a family, as a checker accepted it
abbrev pub accepted_in : Family → Conclusion → Accepted
accepted_in f c = record { family = f; literal = c.literal; verdict = c.verdict }

-- In each family there are the conclusions of T. The counts are those of their verdicts, and what was checked is each of them: every
-- literal that T mentions, in every family, with its verdict. So it is four times as many as there are literals.
pub record IsSurvey (T : TheoryLists) (s : Survey) : Type 0 where
  pub literals : List Literal
  pub conclusions : Family → List Conclusion
  pub each : (f : Family) → map (λ c. c.literal) (conclusions f) ≡ literals
  pub right : (f : Family) → AreConclusions T f (conclusions f)
  pub counted : (f : Family) → counts_in s f ≡ counts_of (map (λ c. c.verdict) (conclusions f))
  pub checked : s.checked.items ≡
      map (accepted_in Definite) (conclusions Definite) ++ map (accepted_in Blocking) (conclusions Blocking)
      ++ map (accepted_in Propagating) (conclusions Propagating) ++ map (accepted_in Support) (conclusions Support)
  pub all_checked : length s.checked.items ≡ 4 * length literals

-- each family, in the order of the inclusions, proves no fewer literals than the one before it, and refutes no more
pub record AreNested (s : Survey) : Type 0 where
  pub proved_definite : s.definite.proved ≤ s.propagating.proved
  pub proved_propagating : s.propagating.proved ≤ s.blocking.proved
  pub proved_blocking : s.blocking.proved ≤ s.support.proved
  pub refuted_support : s.support.refuted ≤ s.blocking.refuted
  pub refuted_blocking : s.blocking.refuted ≤ s.propagating.refuted
  pub refuted_propagating : s.propagating.refuted ≤ s.definite.refuted
