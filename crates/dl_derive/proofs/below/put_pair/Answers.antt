use Rattle.std.proofs.Common.{List, refl, sym, subst, true≢false, ◌∙◌}
use Rattle.dl_base.specs.Paths.{IsDistinct}
use Rattle.dl_base.proofs.Distinct.{distinct_push}
use Rattle.dl_theory.specs.declared.rule.Pair.{Pair}
use Rattle.dl_derive.proofs.Fitting.{adds_push, adds_there}
use Rattle.dl_derive.proofs.below.put_pair.Goals as goal

pub returns-then-has_pair-clause-added : goal.returns-then-has_pair-clause-added
returns-then-has_pair-clause-added c = adds_there c.args.pair c.args.pairs.now.keys c.args.pairs.now.keys refl (c.has_pair.ensures.0 c.if-has_pair.true)

pub append-requires : goal.append-requires
append-requires c = λ m. true≢false (sym (c.has_pair.ensures.1 m) ∙ c.if-has_pair.false)

pub returns-clause-distinct : goal.returns-clause-distinct
returns-clause-distinct c =
    subst (λ (l : List Pair). IsDistinct l) (sym c.in_ok-append.ensures)
    (distinct_push c.args.pairs.now.keys c.args.pair c.requires (λ m. true≢false (sym (c.has_pair.ensures.1 m) ∙ c.if-has_pair.false)))

pub returns-clause-added : goal.returns-clause-added
returns-clause-added c = adds_push c.args.pair c.args.pairs.now.keys c.append.new.pairs.keys c.in_ok-append.ensures
