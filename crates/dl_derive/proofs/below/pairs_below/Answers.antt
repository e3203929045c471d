use Rattle.std.proofs.Common.{List, arith, sym, subst, ◌∙◌}
use Rattle.std.proofs.lemmas.Option.{slice_get_within, get_or_from_slice_get}
use Rattle.std.proofs.lemmas.List.Elements.{All-contains}
use Rattle.dl_base.proofs.Distinct.{distinct_nil}
use Rattle.dl_base.specs.Paths.{IsDistinct}
use Rattle.dl_theory.specs.declared.rule.Pair.{Pair}
use Rattle.dl_graph.specs.Numbers.{HasRule}
use Rattle.dl_derive.proofs.Gaining.{none_past}
use Rattle.dl_derive.proofs.Cutting.{below_none, below_more, below_all}
use Rattle.dl_derive.proofs.below.pairs_below.Goals as goal

pub put_below-requires-clause-rule : goal.put_below-requires-clause-rule
put_below-requires-clause-rule c =
    let e = sym c.at.ensures.member ∙ c.in-Some.is in
    All-contains (HasRule c.args.net.now) c.args.rules.now.members c.in-Some.rule c.requires
    (c.loop-at.at, slice_get_within c.args.rules.now.members c.loop-at.at c.in-Some.rule e, get_or_from_slice_get c.args.rules.now.members c.loop-at.at c.in-Some.rule c.in-Some.rule e)

pub loop-at-preserved : goal.loop-at-preserved
loop-at-preserved c = record {
  distinct = c.in_ok-put_below-in-Some.ensures.distinct;
  pairs =
      below_more c.args.net.now c.args.rules.now.members c.loop-at.at c.in-Some.rule c.loop-at.pairs.keys c.put_below.new.pairs.keys
      (sym c.at.ensures.member ∙ c.in-Some.is) c.loop-at.invariant.pairs c.in_ok-put_below-in-Some.ensures.pairs;
}

pub returns-clause-pairs : goal.returns-clause-pairs
returns-clause-pairs c =
    below_all c.args.net.now c.args.rules.now.members c.loop-at.at c.loop-at.pairs.keys
    (omega (arith, c.len-at-end.ensures.len, c.loop-at-test.false)) c.loop-at.invariant.pairs

pub returns-in-None-clause-pairs : goal.returns-in-None-clause-pairs
returns-in-None-clause-pairs c =
    below_all c.args.net.now c.args.rules.now.members c.loop-at.at c.loop-at.pairs.keys
    (none_past c.args.rules.now.members c.loop-at.at (sym c.at.ensures.member ∙ c.in-None.is)) c.loop-at.invariant.pairs

pub loop-at-init : goal.loop-at-init
loop-at-init c = record {
  distinct = subst (λ (l : List Pair). IsDistinct l) (sym c.new-pairs.ensures.empty) distinct_nil;
  pairs = below_none c.args.net.now c.args.rules.now.members c.new-pairs.result.keys c.new-pairs.ensures.empty;
}
