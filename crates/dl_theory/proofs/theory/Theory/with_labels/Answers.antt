use Rattle.std.proofs.Common.{inr, refl, sym, subst}
use Rattle.dl_theory.specs.Lists.{TheoryLists}
use Rattle.dl_theory.specs.Edits.{HasLabel}
use Rattle.dl_theory.proofs.theory.Theory.with_labels.Goals as goal

pub returns-then-not-has-2-clause-stopped : goal.returns-then-not-has-2-clause-stopped
returns-then-not-has-2-clause-stopped c =
    inr (
      refl,
      subst (λ (T : TheoryLists). HasLabel T c.args.pair.upper) c.self.view_is (c.has.ensures.0 cc),
      λ m.
          let there = c.has-2.ensures.1 (subst (λ (T : TheoryLists). HasLabel T c.args.pair.lower) (sym c.self.view_is) m) in
          cc,
    )
