use Rattle.std.proofs.Common.{ap, subst, refl}
use Rattle.dl_theory.specs.declared.edit.Edit.TheVariants.{AddRule}
use Rattle.dl_theory.specs.declared.edit.EditStop.{EditStop}
use Rattle.dl_theory.specs.Lists.{TheoryLists}
use Rattle.dl_theory.specs.Edits.{IsStopped}
use Rattle.dl_derive.proofs.Fitting.{adds_push, adds_there, rule_fits, rule_there, label_there}
use Rattle.dl_derive.proofs.adding.add_rule.Goals as goal

pub returns-in-Some-clause-rules : goal.returns-in-Some-clause-rules
returns-in-Some-clause-rules c =
    adds_there c.args.rule c.args.theory.now.rules c.args.theory.now.rules refl
    (rule_there c.args.net.now.theory c.args.theory.now c.names-names.ensures.formed c.rule_place.ensures.well_formed c.args.rule
    c.requires.within c.requires.there
    (label_there c.args.net.now.theory c.args.theory.now c.names-names.ensures.formed c.rule_place.ensures.well_formed c.args.rule.label c.in-Some.field-0 c.in-Some.ensures.within c.in-Some.ensures.there))

pub only_memory-requires : goal.only_memory-requires
only_memory-requires c = λ x e.
    rule_fits c.args.net.now.theory c.args.theory.now c.names-names.ensures.formed c.rule_place.ensures.well_formed c.args.rule
    c.requires.within c.requires.there c.in-None.ensures.absent x
    (subst (λ (s : EditStop). IsStopped c.args.theory.now (AddRule c.args.rule) s) e c.in-Err.ensures.0)

pub returns-in-Ok-clause-rules : goal.returns-in-Ok-clause-rules
returns-in-Ok-clause-rules c =
    adds_push c.args.rule c.args.theory.now.rules c.apply_owned.new.self.rules (ap (λ (t : TheoryLists). t.rules) c.in-Ok.ensures.1)
