use Rattle.std.proofs.Common.{ap, subst}
use Rattle.dl_theory.specs.Lists.{IsWellFormed}
use Rattle.dl_theory.proofs.Consistency.{is_consistent}
use Rattle.dl_theory.proofs.Inclusions.{is_inclusive}
use Rattle.dl_theory.proofs.Steps.{is_coherent}
use Rattle.dl_theory.proofs.WellFormed.{edited_keeps}
use Rattle.dl_graph.specs.Numbers.{NetLists}
use Rattle.dl_update.specs.Drafts.{DraftLists}
use Rattle.dl_update.proofs.draft.Draft.touch.Goals as goal

pub returns-clause-coherent : goal.returns-clause-coherent
returns-clause-coherent g c = is_coherent c.change.new.self.theory

pub returns-clause-consistent : goal.returns-clause-consistent
returns-clause-consistent g c =
    let formed : IsWellFormed c.args.self.now.theory =
    subst IsWellFormed (ap (λ (d : DraftLists). d.theory) c.self.view_is)
    (subst (λ (N : NetLists). IsWellFormed N.theory) c.graph.ensures c.names-names.ensures.formed) in
    is_consistent c.change.new.self.theory
    (edited_keeps c.args.self.now.theory c.change.new.self.theory c.args.edit.now c.change.result formed c.change.ensures.edited).acyclic

pub returns-clause-inclusive : goal.returns-clause-inclusive
returns-clause-inclusive g c =
    let formed : IsWellFormed c.args.self.now.theory =
    subst IsWellFormed (ap (λ (d : DraftLists). d.theory) c.self.view_is)
    (subst (λ (N : NetLists). IsWellFormed N.theory) c.graph.ensures c.names-names.ensures.formed) in
    is_inclusive c.change.new.self.theory
    (edited_keeps c.args.self.now.theory c.change.new.self.theory c.args.edit.now c.change.result formed c.change.ensures.edited).acyclic
