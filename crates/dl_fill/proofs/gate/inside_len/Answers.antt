use Rattle.std.proofs.Common.{ℕ, Bool, List, ◌+◌, arith, sym, ap, ◌∙◌, length}
use Rattle.std.specs.Prelude.{filter}
use Rattle.dl_graph.specs.Numbers.{back}
use Rattle.dl_graph.specs.declared.link.Link.TheVariants.{Uses}
use Rattle.dl_fill.specs.Before.{is_inside}
use Rattle.dl_fill.specs.Prepared.{one_if}
use Rattle.dl_fill.proofs.Everywhere.{body_whole}
use Rattle.dl_fill.proofs.Touching.{body_inside, within_at, filter_more, all_at, one_most}
use Rattle.dl_fill.proofs.gate.inside_len.Goals as goal

pub is_inside-requires : goal.is_inside-requires
is_inside-requires c =
    let inside = body_inside c.args.net.now c.names-names.ensures.numbered c.args.rule c.loop-literal.at c.in-Some.literal (sym c.body_once.ensures ∙ c.in-Some.is) in
    omega (arith, inside, c.requires)

pub loop-literal-preserved : goal.loop-literal-preserved
loop-literal-preserved c =
    let lt = within_at (back c.args.net.now Uses c.args.rule) c.loop-literal.at c.in-Some.literal (sym c.body_once.ensures ∙ c.in-Some.is) in
    record {
      count = c.more_if-count.ensures ∙ ap (λ (b : Bool). c.loop-literal.count + one_if b) c.is_inside.ensures
          ∙ ap (λ (n : ℕ). n + one_if (is_inside c.args.region.now.members c.in-Some.literal)) c.loop-literal.invariant.count
          ∙ sym (filter_more (back c.args.net.now Uses c.args.rule) c.loop-literal.at c.in-Some.literal (sym c.body_once.ensures ∙ c.in-Some.is) (is_inside c.args.region.now.members));
      within = omega (arith, lt);
      few = omega (arith, c.more_if-count.ensures, one_most c.is_inside.result, c.loop-literal.invariant.few);
    }

pub returns-clause-len : goal.returns-clause-len
returns-clause-len c =
    c.loop-literal.invariant.count
    ∙ ap (λ (ys : List ℕ). length (filter (is_inside c.args.region.now.members) ys))
    (all_at (back c.args.net.now Uses c.args.rule) c.loop-literal.at (sym c.body_once.ensures ∙ c.in_default.is))

pub returns-then-is_everywhere-clause-len : goal.returns-then-is_everywhere-clause-len
returns-then-is_everywhere-clause-len c =
    c.back_len-len.ensures.len
    ∙ ap length
    (sym
    (body_whole c.args.net.now c.names-names.ensures.numbered c.args.region.now.members (c.is_everywhere.ensures c.if-is_everywhere.true) c.args.rule))
