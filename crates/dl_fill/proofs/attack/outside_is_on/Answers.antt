use Rattle.std.proofs.Common.{◌||◌, true, arith, sym, ◌∙◌}
use Rattle.dl_marks.specs.Marks.{marked}
use Rattle.dl_graph.specs.Numbers.{back}
use Rattle.dl_graph.specs.declared.link.Link.TheVariants.{Uses}
use Rattle.dl_fill.specs.Before.{tag_of, is_inside}
use Rattle.dl_fill.proofs.Reading.{all_goes, all_stops, all_ends}
use Rattle.dl_fill.proofs.Everywhere.{body_stands}
use Rattle.dl_fill.proofs.Touching.{body_inside, within_at}
use Rattle.dl_fill.proofs.attack.outside_is_on.Goals as goal

pub stands_on-requires-clause-bound : goal.stands_on-requires-clause-bound
stands_on-requires-clause-bound c =
    let inside = body_inside c.args.net.now c.names-names.ensures.numbered c.args.rule c.loop-literal.at c.in-Some.literal (sym c.body_once.ensures ∙ c.in-Some.is) in
    omega (arith, inside, c.requires.bound)

pub stands_on-requires-clause-room : goal.stands_on-requires-clause-room
stands_on-requires-clause-room c =
    let inside = body_inside c.args.net.now c.names-names.ensures.numbered c.args.rule c.loop-literal.at c.in-Some.literal (sym c.body_once.ensures ∙ c.in-Some.is) in
    omega (arith, inside, c.requires.room)

pub returns-then-not-stands_on : goal.returns-then-not-stands_on
returns-then-not-stands_on c =
    sym
    (c.loop-literal.invariant.rest
    ∙ all_stops (λ i. is_inside c.args.region.now.members i || marked c.args.marks.now (tag_of true c.args.family) i) (back c.args.net.now Uses c.args.rule) c.loop-literal.at c.in-Some.literal (sym c.body_once.ensures ∙ c.in-Some.is)
    (sym c.stands_on.ensures ∙ c.if-not-stands_on.true))

pub overflow_add-at : goal.overflow_add-at
overflow_add-at c =
    let lt = within_at (back c.args.net.now Uses c.args.rule) c.loop-literal.at c.in-Some.literal (sym c.body_once.ensures ∙ c.in-Some.is) in
    omega (arith, lt, c.back_len-len.ensures.len, c.back_len-len.ensures.few)

pub loop-literal-smaller : goal.loop-literal-smaller
loop-literal-smaller c =
    let lt = within_at (back c.args.net.now Uses c.args.rule) c.loop-literal.at c.in-Some.literal (sym c.body_once.ensures ∙ c.in-Some.is) in
    omega (arith, lt)

pub loop-literal-preserved : goal.loop-literal-preserved
loop-literal-preserved c =
    let lt = within_at (back c.args.net.now Uses c.args.rule) c.loop-literal.at c.in-Some.literal (sym c.body_once.ensures ∙ c.in-Some.is) in
    record {
      rest = c.loop-literal.invariant.rest
          ∙ all_goes (λ i. is_inside c.args.region.now.members i || marked c.args.marks.now (tag_of true c.args.family) i) (back c.args.net.now Uses c.args.rule) c.loop-literal.at c.in-Some.literal (sym c.body_once.ensures ∙ c.in-Some.is)
          (sym c.stands_on.ensures ∙ c.if-not-stands_on.false);
      within = omega (arith, lt);
    }

pub returns : goal.returns
returns c =
    sym
    (c.loop-literal.invariant.rest
    ∙ all_ends (λ i. is_inside c.args.region.now.members i || marked c.args.marks.now (tag_of true c.args.family) i) (back c.args.net.now Uses c.args.rule) c.loop-literal.at (sym c.body_once.ensures ∙ c.in_default.is))

pub returns-then-is_everywhere : goal.returns-then-is_everywhere
returns-then-is_everywhere c =
    sym
    (body_stands c.args.net.now c.names-names.ensures.numbered c.args.region.now.members (c.is_everywhere.ensures c.if-is_everywhere.true) c.args.rule
    (λ i. marked c.args.marks.now (tag_of true c.args.family) i))
