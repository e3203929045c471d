-- The answers in each family make a survey.
use Rattle.std.proofs.Common.{◌≡◌, ◌*◌, List, ◌++◌, map, length, ap, sym, subst, ◌∙◌, arith}
use Rattle.std.proofs.lemmas.List.{length-append}
use Rattle.dl_lit.specs.declared.literal.Literal.{Literal}
use Rattle.dl_lit.specs.declared.literal.Family.{Family}
use Rattle.dl_lit.specs.declared.literal.Family.TheVariants.{Definite, Blocking, Propagating, Support}
use Rattle.dl_theory.specs.Lists.{TheoryLists}
use Rattle.dl_theory.specs.Listings.{AreLiterals}
use Rattle.dl_theory.specs.Laws.{IsInclusive}
use Rattle.dl_check.specs.declared.accepted.Accepted.{Accepted}
use Rattle.dl_summary.specs.declared.counts.Counts.{Counts}
use Rattle.dl_summary.specs.declared.counts.Survey.{Survey}
use Rattle.dl_summary.specs.Survey.{counts_of, counts_in, IsSurvey, AreNested}
use Rattle.dl_summary.specs.declared.families.Answers.{Answers}
use Rattle.dl_summary.specs.declared.families.Families.{Families}
use Rattle.dl_summary.specs.Answers.{AreAnswers, AreAnswered, AreFamilies, IsSurveyOf}
use Rattle.dl_summary.proofs.Gathered.{conclusions_of, verdicts_of, answers_in, answers_listed, answers_long, answers_conclude, answers_again}
use Rattle.dl_summary.proofs.Nested.{proved_more, refuted_more}

module _ (T : TheoryLists) (qs : List Literal) (all : List Answers) (of_all : AreAnswered T qs all) (families : Families) (put : AreFamilies all families)
    (found : Survey) (of : IsSurveyOf families found) where
  abbrev definite : List Accepted
  definite = families.definite.items

  abbrev blocking : List Accepted
  blocking = families.blocking.items

  abbrev propagating : List Accepted
  propagating = families.propagating.items

  abbrev support : List Accepted
  support = families.support.items

  abbrev answers : Family → List Accepted
  answers Definite = definite
  answers Blocking = blocking
  answers Propagating = propagating
  answers Support = support

  each : (f : Family) → AreAnswers T f qs (answers f)
  each Definite = subst (AreAnswers T Definite qs) (sym put.definite) (answers_in T Definite (λ a. a.definite) (λ q a h. h.definite) qs all of_all)
  each Blocking = subst (AreAnswers T Blocking qs) (sym put.blocking) (answers_in T Blocking (λ a. a.blocking) (λ q a h. h.blocking) qs all of_all)
  each Propagating = subst (AreAnswers T Propagating qs) (sym put.propagating) (answers_in T Propagating (λ a. a.propagating) (λ q a h. h.propagating) qs all of_all)
  each Support = subst (AreAnswers T Support qs) (sym put.support) (answers_in T Support (λ a. a.support) (λ q a h. h.support) qs all of_all)

  counted : (f : Family) → counts_in found f ≡ counts_of (map (λ c. c.verdict) (conclusions_of (answers f)))
  counted Definite = of.definite_counts ∙ ap counts_of (verdicts_of definite)
  counted Blocking = of.blocking_counts ∙ ap counts_of (verdicts_of blocking)
  counted Propagating = of.propagating_counts ∙ ap counts_of (verdicts_of propagating)
  counted Support = of.support_counts ∙ ap counts_of (verdicts_of support)

  long : (f : Family) → length (answers f) ≡ length qs
  long f = answers_long T f qs (answers f) (each f)

  all_checked : length found.checked.items ≡ 4 * length qs
  all_checked =
      omega (arith, ap length of.checked, length-append (definite ++ blocking ++ propagating) support, length-append (definite ++ blocking) propagating, length-append definite blocking, long Definite, long Blocking, long Propagating, long Support)

  pub is_survey : AreLiterals T qs → IsSurvey T found
  is_survey listed = record {
    literals = qs;
    conclusions = λ f. conclusions_of (answers f);
    each = λ f. answers_listed T f qs (answers f) (each f);
    right = λ f. answers_conclude T f qs (answers f) listed (each f);
    counted = counted;
    checked = of.checked
        ∙ (λ i. answers_again T Definite qs definite (each Definite) i ++ answers_again T Blocking qs blocking (each Blocking) i
        ++ answers_again T Propagating qs propagating (each Propagating) i ++ answers_again T Support qs support (each Support) i);
    all_checked = all_checked;
  }

  pub is_nested : IsInclusive T → AreNested found
  is_nested more =
      let proved = λ (n : Counts). n.proved in
      let refuted = λ (n : Counts). n.refuted in
      record {
        proved_definite = omega (arith, ap proved of.definite_counts, ap proved of.propagating_counts, proved_more T Definite Propagating qs definite propagating (each Definite) (each Propagating) more.plus_definite);
        proved_propagating = omega (arith, ap proved of.propagating_counts, ap proved of.blocking_counts, proved_more T Propagating Blocking qs propagating blocking (each Propagating) (each Blocking) more.plus_propagating);
        proved_blocking = omega (arith, ap proved of.blocking_counts, ap proved of.support_counts, proved_more T Blocking Support qs blocking support (each Blocking) (each Support) more.plus_blocking);
        refuted_support = omega (arith, ap refuted of.support_counts, ap refuted of.blocking_counts, refuted_more T Support Blocking qs support blocking (each Support) (each Blocking) more.minus_support);
        refuted_blocking = omega (arith, ap refuted of.blocking_counts, ap refuted of.propagating_counts, refuted_more T Blocking Propagating qs blocking propagating (each Blocking) (each Propagating) more.minus_blocking);
        refuted_propagating = omega (arith, ap refuted of.propagating_counts, ap refuted of.definite_counts, refuted_more T Propagating Definite qs propagating definite (each Propagating) (each Definite) more.minus_propagating);
      }
