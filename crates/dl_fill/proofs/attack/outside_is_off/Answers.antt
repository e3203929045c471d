use Rattle.std.proofs.Common.{◌&&◌, false, arith, sym, ◌∙◌}
use Rattle.std.specs.Prelude.{not}
use Rattle.dl_marks.specs.Marks.{marked}
use Rattle.dl_graph.specs.Numbers.{back}
use Rattle.dl_graph.specs.declared.link.Link.TheVariants.{Uses}
use Rattle.dl_fill.specs.Before.{tag_of, is_inside}
use Rattle.dl_fill.proofs.Reading.{any_goes, any_stops, any_ends}
use Rattle.dl_fill.proofs.Everywhere.{body_stays}
use Rattle.dl_fill.proofs.Touching.{body_inside, within_at}
use Rattle.dl_fill.proofs.attack.outside_is_off.Goals as goal

pub stands_off-requires-clause-bound : goal.stands_off-requires-clause-bound
stands_off-requires-clause-bound c =
    let inside = body_inside c.args.net.now c.names-names.ensures.numbered c.args.rule c.loop-literal.at c.in-Some.literal (sym c.body_once.ensures ∙ c.in-Some.is) in
    omega (arith, inside, c.requires.bound)

pub stands_off-requires-clause-room : goal.stands_off-requires-clause-room
stands_off-requires-clause-room c =
    let inside = body_inside c.args.net.now c.names-names.ensures.numbered c.args.rule c.loop-literal.at c.in-Some.literal (sym c.body_once.ensures ∙ c.in-Some.is) in
    omega (arith, inside, c.requires.room)

pub returns-then-stands_off : goal.returns-then-stands_off
returns-then-stands_off c =
    sym
    (c.loop-literal.invariant.rest
    ∙ any_stops (λ i. not (is_inside c.args.region.now.members i) && marked c.args.marks.now (tag_of false c.args.family) i) (back c.args.net.now Uses c.args.rule) c.loop-literal.at c.in-Some.literal (sym c.body_once.ensures ∙ c.in-Some.is)
    (sym c.stands_off.ensures ∙ c.if-stands_off.true))

pub overflow_add-at : goal.overflow_add-at
overflow_add-at c =
    let lt = within_at (back c.args.net.now Uses c.args.rule) c.loop-literal.at c.in-Some.literal (sym c.body_once.ensures ∙ c.in-Some.is) in
    omega (arith, lt, c.back_len-len.ensures.len, c.back_len-len.ensures.few)

pub loop-literal-smaller : goal.loop-literal-smaller
loop-literal-smaller c =
    let lt = within_at (back c.args.net.now Uses c.args.rule) c.loop-literal.at c.in-Some.literal (sym c.body_once.ensures ∙ c.in-Some.is) in
    omega (arith, lt)

pub loop-literal-preserved : goal.loop-literal-preserved
loop-literal-preserved c =
    let lt = within_at (back c.args.net.now Uses c.args.rule) c.loop-literal.at c.in-Some.literal (sym c.body_once.ensures ∙ c.in-Some.is) in
    record {
      rest = c.loop-literal.invariant.rest
          ∙ any_goes (λ i. not (is_inside c.args.region.now.members i) && marked c.args.marks.now (tag_of false c.args.family) i) (back c.args.net.now Uses c.args.rule) c.loop-literal.at c.in-Some.literal (sym c.body_once.ensures ∙ c.in-Some.is)
          (sym c.stands_off.ensures ∙ c.if-stands_off.false);
      within = omega (arith, lt);
    }

pub returns : goal.returns
returns c =
    sym
    (c.loop-literal.invariant.rest
    ∙ any_ends (λ i. not (is_inside c.args.region.now.members i) && marked c.args.marks.now (tag_of false c.args.family) i) (back c.args.net.now Uses c.args.rule) c.loop-literal.at (sym c.body_once.ensures ∙ c.in_default.is))

pub returns-then-is_everywhere : goal.returns-then-is_everywhere
returns-then-is_everywhere c =
    sym
    (body_stays c.args.net.now c.names-names.ensures.numbered c.args.region.now.members (c.is_everywhere.ensures c.if-is_everywhere.true) c.args.rule
    (λ i. marked c.args.marks.now (tag_of false c.args.family) i))
