use Rattle.std.proofs.Common.{ap, subst, ◌∙◌}
use Rattle.dl_theory.specs.declared.edit.PairsStop.{PairsStop}
use Rattle.dl_theory.specs.Lists.{TheoryLists}
use Rattle.dl_theory.specs.Edits.{IsPairsStop}
use Rattle.dl_theory.proofs.Additions.{after_additions}
use Rattle.dl_derive.proofs.Fitting.{pairs_fit, pairs_after}
use Rattle.dl_derive.proofs.adding.add_pairs.Goals as goal

pub only_memory_for_pairs-requires : goal.only_memory_for_pairs-requires
only_memory_for_pairs-requires c = λ at x e.
    pairs_fit c.args.net.now.theory c.args.theory.now c.names-names.ensures.formed c.requires.none c.args.pairs.now
    c.requires.distinct c.requires.within c.requires.labelled c.add_pairs.new.self at x
    (subst (λ (s : PairsStop). IsPairsStop c.args.theory.now c.add_pairs.new.self c.args.pairs.now s) e c.in-Err.ensures)

pub returns-in-Ok-clause-pairs : goal.returns-in-Ok-clause-pairs
returns-in-Ok-clause-pairs c =
    ap (λ (t : TheoryLists). t.pairs) c.in-Ok.ensures.1
    ∙ pairs_after c.args.net.now.theory c.args.theory.now c.names-names.ensures.formed c.requires.none c.args.pairs.now
    c.requires.distinct c.requires.within c.requires.labelled c.args.pairs.now

pub returns-in-Ok-clause-facts : goal.returns-in-Ok-clause-facts
returns-in-Ok-clause-facts c = ap (λ (t : TheoryLists). t.facts) (c.in-Ok.ensures.1 ∙ after_additions c.args.theory.now c.args.pairs.now)

pub returns-in-Ok-clause-rules : goal.returns-in-Ok-clause-rules
returns-in-Ok-clause-rules c = ap (λ (t : TheoryLists). t.rules) (c.in-Ok.ensures.1 ∙ after_additions c.args.theory.now c.args.pairs.now)
