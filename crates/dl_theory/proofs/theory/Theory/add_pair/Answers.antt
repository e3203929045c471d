use Rattle.std.proofs.Common.{sym, subst}
use Rattle.dl_theory.specs.declared.rule.Pair.{Pair}
use Rattle.dl_theory.specs.Lists.{TheoryLists}
use Rattle.dl_theory.specs.Edits.{HasLabel}
use Rattle.dl_theory.specs.Kept.{lists_of}
use Rattle.dl_theory.proofs.WellFormed.{either_keeps}
use Rattle.dl_theory.proofs.theory.Theory.add_pair.Goals as goal

pub invariant_of-self : goal.invariant_of-self
invariant_of-self c =
    let there =
    subst (λ (p : Pair). HasLabel (lists_of c.self.inside) p.upper × HasLabel (lists_of c.self.inside) p.lower) (sym c.in_ok-pair.ensures.same)
    (subst (λ (T : TheoryLists). HasLabel T c.args.pair.upper × HasLabel T c.args.pair.lower) (sym c.self.view_is) c.in_ok-pair.ensures.there) in
    either_keeps (lists_of c.self.inside) c.in_ok-pair.pair c.add.new.self c.add.result c.self.invariant there.0 there.1
    (λ m. let absent = c.has.ensures.1 m in cc)
    c.add.ensures.accepted c.add.ensures.room c.add.ensures.added c.add.ensures.kept
