use Rattle.std.proofs.Common.{subst, arith}
use Rattle.dl_theory.specs.Lists.{IsWellFormed}
use Rattle.dl_theory.proofs.Closure.{is_least_closed}
use Rattle.dl_theory.proofs.Consistency.{is_consistent}
use Rattle.dl_theory.proofs.Inclusions.{is_inclusive}
use Rattle.dl_theory.proofs.Steps.{is_coherent}
use Rattle.dl_graph.specs.Numbers.{NetLists}
use Rattle.dl_update.specs.RightIn.{AreRightIn}
use Rattle.dl_update.proofs.draft.Draft.saturate.Goals as goal

pub invariant_of-result : goal.invariant_of-result
invariant_of-result g c = record {
  right = subst (λ (N : NetLists). AreRightIn c.args.families N.theory N.names c.in_ok-marks.marks) c.graph-2.ensures c.in_ok-marks.ensures;
  cone = omega (arith, c.none.ensures.bound);
  net_frozen = λ e. absurd cc;
  marks_frozen = λ e. absurd cc;
}

pub returns-clause-coherent : goal.returns-clause-coherent
returns-clause-coherent g c = is_coherent c.args.net.theory

pub returns-clause-least : goal.returns-clause-least
returns-clause-least g c = is_least_closed c.args.net.theory

pub returns-clause-consistent : goal.returns-clause-consistent
returns-clause-consistent g c = is_consistent c.args.net.theory (subst (λ (N : NetLists). IsWellFormed N.theory) c.graph.ensures c.names-names.ensures.formed).acyclic

pub returns-clause-inclusive : goal.returns-clause-inclusive
returns-clause-inclusive g c = is_inclusive c.args.net.theory (subst (λ (N : NetLists). IsWellFormed N.theory) c.graph.ensures c.names-names.ensures.formed).acyclic
