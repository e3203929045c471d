use Rattle.std.proofs.Common.{List, sym, subst}
use Rattle.dl_lit.specs.declared.literal.Literal.{Literal}
use Rattle.dl_theory.specs.Lists.{TheoryLists, IsWellFormed}
use Rattle.dl_theory.specs.Kept.{lists_of}
use Rattle.dl_theory.proofs.WellFormed.{drop_fact_keeps}
use Rattle.dl_theory.proofs.theory.Theory.remove_fact.Goals as goal

pub invariant_of-self : goal.invariant_of-self
invariant_of-self c =
    let T : TheoryLists = lists_of c.self.inside in
    subst (λ (facts : List Literal). IsWellFormed (record T { facts = facts })) (sym c.remove.ensures.dropped)
    (drop_fact_keeps T c.args.fact.now c.self.invariant)
