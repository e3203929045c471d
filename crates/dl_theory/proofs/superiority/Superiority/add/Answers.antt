use Rattle.std.proofs.Common.{List, ℕ, sym, subst, ◌∙◌}
use Rattle.dl_base.specs.Paths.{IsDistinct}
use Rattle.dl_theory.specs.Pairs.{IsNumbered}
use Rattle.dl_theory.proofs.Numbers.{numbered_grown}
use Rattle.dl_theory.proofs.superiority.Superiority.add.Goals as goal

pub invariant_of-self : goal.invariant_of-self
invariant_of-self c =
    let grown = c.number_pair.ensures.grown in
    subst (λ (items : List (List ℕ)). IsNumbered items c.self.inside.order c.self.inside.pairs.items) (sym grown.1)
    (numbered_grown c.self.inside.items.keys grown.0 c.self.inside.order c.self.inside.pairs.items
    (subst (λ (items : List (List ℕ)). IsDistinct items) grown.1 c.number_pair.ensures.distinct) c.self.invariant)

pub add_numbered-requires-clause-numbered : goal.add_numbered-requires-clause-numbered
add_numbered-requires-clause-numbered c =
    let grown = c.number_pair.ensures.grown in
    subst (λ (items : List (List ℕ)). IsNumbered items c.self.inside.order c.self.inside.pairs.items) (sym (c.as_slice.ensures.keys ∙ grown.1))
    (numbered_grown c.self.inside.items.keys grown.0 c.self.inside.order c.self.inside.pairs.items
    (subst (λ (items : List (List ℕ)). IsDistinct items) grown.1 c.number_pair.ensures.distinct) c.self.invariant)
