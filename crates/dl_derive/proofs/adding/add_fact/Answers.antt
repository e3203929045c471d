use Rattle.std.proofs.Common.{ap, subst, sym, refl, true≢false, ◌∙◌}
use Rattle.dl_theory.specs.declared.edit.Edit.TheVariants.{AddFact}
use Rattle.dl_theory.specs.declared.edit.EditStop.{EditStop}
use Rattle.dl_theory.specs.Lists.{TheoryLists}
use Rattle.dl_theory.specs.Edits.{IsStopped}
use Rattle.dl_derive.proofs.Fitting.{adds_push, adds_there, fact_fits}
use Rattle.dl_derive.proofs.adding.add_fact.Goals as goal

pub returns-then-has_fact-clause-facts : goal.returns-then-has_fact-clause-facts
returns-then-has_fact-clause-facts c = adds_there c.args.fact c.args.theory.now.facts c.args.theory.now.facts refl (c.has_fact.ensures.value.0 c.if-has_fact.true)

pub only_memory-requires : goal.only_memory-requires
only_memory-requires c = λ x e.
    fact_fits c.args.net.now.theory c.args.theory.now c.names-names.ensures.formed c.has_fact.ensures.well_formed c.args.fact
    c.requires.within c.requires.there (λ m. true≢false (sym (c.has_fact.ensures.value.1 m) ∙ c.if-has_fact.false)) x
    (subst (λ (s : EditStop). IsStopped c.args.theory.now (AddFact c.args.fact) s) e c.in-Err.ensures.0)

pub returns-in-Ok-clause-facts : goal.returns-in-Ok-clause-facts
returns-in-Ok-clause-facts c =
    adds_push c.args.fact c.args.theory.now.facts c.apply_owned.new.self.facts (ap (λ (t : TheoryLists). t.facts) c.in-Ok.ensures.1)
