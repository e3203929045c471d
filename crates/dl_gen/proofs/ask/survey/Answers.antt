use Rattle.std.proofs.Common.{List, map, sym, subst}
use Rattle.dl_theory.specs.Lists.{TheoryLists}
use Rattle.dl_theory.specs.Listings.{AreLiterals}
use Rattle.dl_theory.specs.Laws.{IsInclusive}
use Rattle.dl_theory.proofs.Steps.{is_coherent}
use Rattle.dl_theory.proofs.Consistency.{is_consistent}
use Rattle.dl_theory.proofs.Inclusions.{is_inclusive}
use Rattle.dl_conclusions.specs.declared.conclusion.Conclusion.{Conclusion}
use Rattle.dl_summary.specs.Survey.{IsSurvey}
use Rattle.dl_summary.proofs.Surveyed.{is_survey, is_nested}
use Rattle.dl_gen.proofs.ask.survey.Goals as goal

pub returns-clause-survey : goal.returns-clause-survey
returns-clause-survey g c =
    let T = c.args.held.now.theory in
    let list = c.as_slice-list.result.now in
    let listed = subst (λ (l : List Conclusion). AreLiterals T (map (λ q. q.literal) l)) (sym c.as_slice-list.ensures) c.in_ok-literals.ensures.listed in
    subst (λ (U : TheoryLists). IsSurvey U c.in_ok-survey.survey) c.requires
    (is_survey T (map (λ q. q.literal) list) c.in_ok-each.each.items c.in_ok-each.ensures c.in_ok-families.families c.in_ok-families.ensures
    c.in_ok-survey.survey c.in_ok-survey.ensures listed)

pub returns-clause-nested : goal.returns-clause-nested
returns-clause-nested g c =
    let T = c.args.held.now.theory in
    let list = c.as_slice-list.result.now in
    let formed = c.facts_len-formed.ensures.well_formed in
    is_nested T (map (λ q. q.literal) list) c.in_ok-each.each.items c.in_ok-each.ensures c.in_ok-families.families c.in_ok-families.ensures
    c.in_ok-survey.survey c.in_ok-survey.ensures (subst IsInclusive (sym c.requires) (is_inclusive c.args.theory.now formed.acyclic))

pub returns-clause-coherent : goal.returns-clause-coherent
returns-clause-coherent g c = is_coherent c.args.theory.now

pub returns-clause-consistent : goal.returns-clause-consistent
returns-clause-consistent g c = is_consistent c.args.theory.now c.facts_len-formed.ensures.well_formed.acyclic

pub returns-clause-inclusive : goal.returns-clause-inclusive
returns-clause-inclusive g c = is_inclusive c.args.theory.now c.facts_len-formed.ensures.well_formed.acyclic
