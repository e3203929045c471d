use Rattle.std.proofs.Common.{arith, sym, ◌∙◌}
use Rattle.std.proofs.lemmas.Option.{slice_get_within, get_or_from_slice_get}
use Rattle.dl_graph.specs.Numbers.{back}
use Rattle.dl_graph.specs.declared.link.Link.TheVariants.{Uses}
use Rattle.dl_derive.specs.Back.{Is}
use Rattle.dl_derive.proofs.Gaining.{front_starts, front_goes, front_ends, gains_one, none_past}
use Rattle.dl_derive.proofs.Resting.{body_inside}
use Rattle.dl_derive.proofs.back.put_body.Goals as goal

pub loop-at-init : goal.loop-at-init
loop-at-init c = record { gains = front_starts Is (back c.args.net.now Uses c.args.rule) c.args.found.now }

pub put-requires : goal.put-requires
put-requires c =
    let e = sym c.body_once.ensures ∙ c.in-Some.is in
    let inside = body_inside c.args.net.now c.names-names.ensures.numbered c.args.rule c.in-Some.literal c.requires.rule
    (c.loop-at.at, slice_get_within (back c.args.net.now Uses c.args.rule) c.loop-at.at c.in-Some.literal e, get_or_from_slice_get (back c.args.net.now Uses c.args.rule) c.loop-at.at c.in-Some.literal c.in-Some.literal e) in
    omega (arith, inside, c.loop-at.invariant.gains.bound, c.requires.bound)

pub loop-at-preserved : goal.loop-at-preserved
loop-at-preserved c = record {
  gains =
      front_goes Is (back c.args.net.now Uses c.args.rule) c.loop-at.at c.in-Some.literal
      c.args.found.now c.loop-at.found c.put.new.self (sym c.body_once.ensures ∙ c.in-Some.is) c.loop-at.invariant.gains
      (gains_one c.loop-at.found c.put.new.self c.in-Some.literal c.put.ensures.bound c.put.ensures.there c.in_ok-put-in-Some.ensures.new);
}

pub returns : goal.returns
returns c =
    front_ends Is (back c.args.net.now Uses c.args.rule) c.loop-at.at c.args.found.now c.loop-at.found
    (omega arith) c.loop-at.invariant.gains

pub returns-in-None : goal.returns-in-None
returns-in-None c =
    front_ends Is (back c.args.net.now Uses c.args.rule) c.loop-at.at c.args.found.now c.loop-at.found
    (none_past (back c.args.net.now Uses c.args.rule) c.loop-at.at (sym c.body_once.ensures ∙ c.in-None.is))
    c.loop-at.invariant.gains
