use Rattle.std.proofs.Common.{arith, sym, ◌∙◌}
use Rattle.std.proofs.lemmas.Option.{slice_get_within, get_or_from_slice_get}
use Rattle.dl_graph.specs.Numbers.{heads}
use Rattle.dl_graph.proofs.Slots.{rule_within}
use Rattle.dl_derive.specs.Back.{Is}
use Rattle.dl_derive.proofs.Gaining.{front_starts, front_goes, front_ends, gains_one, none_past}
use Rattle.dl_derive.proofs.Resting.{rule_inside, few_heads}
use Rattle.dl_derive.proofs.part.put_heads.Goals as goal

pub loop-at-init : goal.loop-at-init
loop-at-init c = record { gains = front_starts Is (heads c.args.net.now c.args.number) c.args.rules.now }

pub put-requires : goal.put-requires
put-requires c =
    let e = sym c.heads.ensures ∙ c.in-Some.is in
    let row = heads c.args.net.now c.args.number in
    let has =
    rule_inside c.args.net.now c.names-names.ensures.numbered c.args.number c.in-Some.rule c.requires.number
    (c.loop-at.at, slice_get_within row c.loop-at.at c.in-Some.rule e, get_or_from_slice_get row c.loop-at.at c.in-Some.rule c.in-Some.rule e) in
    omega (arith, rule_within c.args.net.now c.in-Some.rule has, c.loop-at.invariant.gains.bound, c.requires.bound)

pub loop-at-preserved : goal.loop-at-preserved
loop-at-preserved c = record {
  gains =
      front_goes Is (heads c.args.net.now c.args.number) c.loop-at.at c.in-Some.rule
      c.args.rules.now c.loop-at.rules c.put.new.self (sym c.heads.ensures ∙ c.in-Some.is) c.loop-at.invariant.gains
      (gains_one c.loop-at.rules c.put.new.self c.in-Some.rule c.put.ensures.bound c.put.ensures.there c.in_ok-put-in-Some.ensures.new);
}

pub returns : goal.returns
returns c =
    front_ends Is (heads c.args.net.now c.args.number) c.loop-at.at c.args.rules.now c.loop-at.rules
    (omega (arith, few_heads c.args.net.now c.args.number)) c.loop-at.invariant.gains

pub returns-in-None : goal.returns-in-None
returns-in-None c =
    front_ends Is (heads c.args.net.now c.args.number) c.loop-at.at c.args.rules.now c.loop-at.rules
    (none_past (heads c.args.net.now c.args.number) c.loop-at.at (sym c.heads.ensures ∙ c.in-None.is))
    c.loop-at.invariant.gains
