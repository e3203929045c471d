-- The conclusions of a theory in a family.
use Rattle.std.specs.Prelude.{ℕ, true, false, List, All, map, if◌then◌else◌}
use Rattle.dl_lit.specs.declared.literal.Family.{Family}
use Rattle.dl_theory.specs.Lists.{TheoryLists}
use Rattle.dl_theory.specs.Listings.{AreLiterals}
use Rattle.dl_theory.specs.Verdicts.{IsVerdict}
use Rattle.dl_theory.specs.declared.answer.Verdict.{Verdict}
use Rattle.dl_theory.specs.declared.answer.Verdict.TheVariants.{Proved, Refuted, Neither}
use Rattle.dl_marks.specs.Marks.{Marking, marked}
use Rattle.dl_graph.specs.Numbers.{NetLists, no_literal, literal_at}
use Rattle.dl_fill.specs.Before.{tag_of}
use Rattle.dl_conclusions.specs.declared.conclusion.Conclusion.{Conclusion}

-- each literal that the theory mentions, in order, with its verdict
pub record AreConclusions (T : TheoryLists) (f : Family) (cs : List Conclusion) : Type 0 where
  pub listed : AreLiterals T (map (λ c. c.literal) cs)
  pub right : All (λ c. IsVerdict T f c.literal c.verdict) cs

-- what marks say of the literal with a number
abbrev pub verdict_at : Marking → Family → ℕ → Verdict
verdict_at m f n = if marked m (tag_of true f) n then Proved else if marked m (tag_of false f) n then Refuted else Neither

abbrev pub conclusion_at : NetLists → Marking → Family → ℕ → Conclusion
conclusion_at N m f n = record { literal = literal_at N n; verdict = verdict_at m f n }

abbrev pub no_conclusion : Conclusion
no_conclusion = record { literal = no_literal; verdict = Neither }
