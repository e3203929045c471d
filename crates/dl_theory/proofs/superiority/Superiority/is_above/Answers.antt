use Rattle.std.proofs.Common.{List, sym, subst}
use Rattle.dl_theory.specs.declared.rule.Pair.{Pair}
use Rattle.dl_theory.specs.Lists.{IsAbove}
use Rattle.dl_theory.proofs.Numbers.{above_numbered, labels_of_pair}
use Rattle.dl_theory.proofs.superiority.Superiority.is_above.Goals as goal

pub returns-in-None : goal.returns-in-None
returns-in-None c = (
  λ e. cc,
  λ m. absurd (c.place_of.ensures.absent c.in-None.is
      (labels_of_pair c.self.inside.items.keys c.self.inside.order c.self.inside.pairs.items c.self.invariant c.args.upper.now c.args.lower.now
      (subst (λ (ps : List Pair). IsAbove ps c.args.upper.now c.args.lower.now) (sym c.self.view_is) m)).0),
)

pub returns-in-None-place_of : goal.returns-in-None-place_of
returns-in-None-place_of c = (
  λ e. cc,
  λ m. absurd (c.place_of-in-Some.ensures.absent c.in-None-place_of.is
      (labels_of_pair c.self.inside.items.keys c.self.inside.order c.self.inside.pairs.items c.self.invariant c.args.upper.now c.args.lower.now
      (subst (λ (ps : List Pair). IsAbove ps c.args.upper.now c.args.lower.now) (sym c.self.view_is) m)).1),
)

pub returns-in-Some-place_of : goal.returns-in-Some-place_of
returns-in-Some-place_of c =
    let same =
    above_numbered c.self.inside.items.keys c.self.inside.order c.self.inside.pairs.items c.self.invariant c.args.upper.now c.args.lower.now
    c.in-Some.above c.in-Some-place_of.below c.in-Some.ensures.within c.in-Some-place_of.ensures.within c.in-Some.ensures.there c.in-Some-place_of.ensures.there in (
      λ e. subst (λ (ps : List Pair). IsAbove ps c.args.upper.now c.args.lower.now) c.self.view_is (same.0 (c.above.ensures.0 e)),
      λ m. c.above.ensures.1 (same.1 (subst (λ (ps : List Pair). IsAbove ps c.args.upper.now c.args.lower.now) (sym c.self.view_is) m)),
    )
