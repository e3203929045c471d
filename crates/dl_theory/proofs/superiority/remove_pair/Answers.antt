use Rattle.std.proofs.Common.{◌≡◌, List, map-id, sym, subst, ◌∙◌, rules, tests}
use Rattle.std.proofs.lemmas.Iterator.{YieldsList-from_slice, IsFirst-from_position}
use Rattle.std.proofs.lemmas.List.Elements.{at_from_Contains}
use Rattle.std.proofs.lemmas.List.Folds.{none_from_all_within}
use Rattle.dl_base.specs.Paths.{IsDistinct}
use Rattle.dl_base.proofs.Filters.{remove_is_filter}
use Rattle.dl_theory.specs.declared.rule.Pair.{Pair}
use Rattle.dl_theory.specs.Pairs.{pair_eq, pair_eq-Decides}
use Rattle.dl_theory.proofs.Numbers.{without_absent}
use Rattle.dl_theory.proofs.superiority.remove_pair.Goals as goal

pub returns-in-Some : goal.returns-in-Some
returns-in-Some c =
    let first =
    IsFirst-from_position _ _ c.position.result (λ p. p ≡ c.args.pair.now) (λ p. ¬ (p ≡ c.args.pair.now)) c.position.ensures.ran
    (YieldsList-from_slice c.args.pairs.now.items cc) (λ x q k. search (rules, tests)) (λ x q k. search (rules, tests)) in
    let here = rw c.in-Some.is at first in
    c.remove.ensures.items
    ∙ remove_is_filter (λ p. p) pair_eq pair_eq-Decides c.args.pair.now c.args.pairs.now.items c.in-Some.at c.args.pair.now
    (subst (λ (ps : List Pair). IsDistinct ps) (sym (map-id c.args.pairs.now.items)) c.requires) here.0 (here.1 c.args.pair.now)

pub returns-in_default : goal.returns-in_default
returns-in_default c =
    let first =
    IsFirst-from_position _ _ c.position.result (λ p. p ≡ c.args.pair.now) (λ p. ¬ (p ≡ c.args.pair.now)) c.position.ensures.ran
    (YieldsList-from_slice c.args.pairs.now.items cc) (λ x q k. search (rules, tests)) (λ x q k. search (rules, tests)) in
    let none = rw c.in_default.is at first in
    sym (without_absent pair_eq pair_eq-Decides c.args.pairs.now.items c.args.pair.now
    (λ m. none_from_all_within (λ p. p ≡ c.args.pair.now) c.args.pairs.now.items none (at_from_Contains c.args.pairs.now.items c.args.pair.now m)))
