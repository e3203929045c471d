use Rattle.std.proofs.Common.{List, sym, subst}
use Rattle.dl_theory.specs.declared.rule.Pair.{Pair}
use Rattle.dl_theory.specs.Lists.{TheoryLists, IsWellFormed}
use Rattle.dl_theory.specs.Kept.{lists_of}
use Rattle.dl_theory.proofs.WellFormed.{drop_pair_keeps}
use Rattle.dl_theory.proofs.theory.Theory.remove_pair.Goals as goal

pub invariant_of-self : goal.invariant_of-self
invariant_of-self c =
    let T : TheoryLists = lists_of c.self.inside in
    subst (λ (pairs : List Pair). IsWellFormed (record T { pairs = pairs })) (sym c.drop_pair.ensures.dropped)
    (drop_pair_keeps T c.args.pair.now c.self.invariant)
