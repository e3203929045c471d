use Rattle.std.proofs.Common.{◌≡◌, ℕ, Option, List, map, take, get_or, sym, ap, subst, ◌∙◌}
use Rattle.std.specs.Prelude.{Contains, MatchOption}
use Rattle.dl_base.specs.Paths.{IsDistinct}
use Rattle.dl_base.proofs.Distinct.{distinct_front}
use Rattle.dl_theory.specs.declared.rule.Rule.{Rule}
use Rattle.dl_theory.proofs.rules.Rules.copy.Goals as goal

pub unreachable-requires : goal.unreachable-requires
unreachable-requires c =
    let rules : List Rule = c.deref-rule-items.result.now in
    let labels : List Rule → List (List ℕ) = λ us. map (λ u. u.label) us in
    let all : rules ≡ c.args.self.now = c.deref-rule-items.ensures.value ∙ c.self.view_is in
    let same : c.in_ok-copy.field-0.label ≡ (get_or rules c.loop-rule.rule-index c.rule-item.result).label =
    ap (λ (u : Rule). u.label) (c.in_ok-copy.ensures ∙ c.rule-item.is) in
    let new : Contains (labels c.loop-rule.copy) c.in_ok-copy.field-0.label → ⊥ = λ m.
    distinct_front (λ (u : Rule). u.label) rules c.loop-rule.rule-index c.rule-item.result
    (subst (λ (us : List Rule). IsDistinct (labels us)) (sym all) c.requires) c.loop-rule-test.true
    (subst (λ (l : List ℕ). Contains (labels (take c.loop-rule.rule-index rules)) l) same
    (subst (λ (us : List Rule). Contains (labels us) c.in_ok-copy.field-0.label) c.loop-rule.invariant m)) in
    let there = subst (λ (o : Option Rule). MatchOption o (Contains (labels c.loop-rule.copy) c.in_ok-copy.field-0.label → ⊥) (λ given. (given ≡ c.in_ok-copy.field-0) × Contains (labels c.loop-rule.copy) c.in_ok-copy.field-0.label))
    c.in-Some.is c.in_ok-add.ensures.added in
    new there.1
