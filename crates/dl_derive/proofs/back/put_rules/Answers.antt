use Rattle.std.proofs.Common.{arith, sym, ◌∙◌}
use Rattle.std.proofs.lemmas.Option.{slice_get_within, get_or_from_slice_get}
use Rattle.dl_graph.specs.Numbers.{heads, back}
use Rattle.dl_graph.specs.declared.link.Link.TheVariants.{Uses}
use Rattle.dl_derive.specs.Back.{Is, FromRow}
use Rattle.dl_derive.proofs.Gaining.{front_starts, front_goes, front_ends, none_past}
use Rattle.dl_derive.proofs.Resting.{rule_inside, few_heads}
use Rattle.dl_derive.proofs.back.put_rules.Goals as goal

pub loop-at-init : goal.loop-at-init
loop-at-init c = record { gains = front_starts (λ r. FromRow Is (back c.args.net.now Uses r)) (heads c.args.net.now c.args.number) c.args.found.now }

pub put_body-requires-clause-rule : goal.put_body-requires-clause-rule
put_body-requires-clause-rule c =
    let e = sym c.heads.ensures ∙ c.in-Some.is in
    rule_inside c.args.net.now c.names-names.ensures.numbered c.args.number c.in-Some.rule c.requires.number
    (c.loop-at.at, slice_get_within (heads c.args.net.now c.args.number) c.loop-at.at c.in-Some.rule e, get_or_from_slice_get (heads c.args.net.now c.args.number) c.loop-at.at c.in-Some.rule c.in-Some.rule e)

pub put_body-requires-clause-bound : goal.put_body-requires-clause-bound
put_body-requires-clause-bound c = c.loop-at.invariant.gains.bound ∙ c.requires.bound

pub loop-at-preserved : goal.loop-at-preserved
loop-at-preserved c = record {
  gains =
      front_goes (λ r. FromRow Is (back c.args.net.now Uses r)) (heads c.args.net.now c.args.number) c.loop-at.at c.in-Some.rule
      c.args.found.now c.loop-at.found c.put_body.new.found (sym c.heads.ensures ∙ c.in-Some.is) c.loop-at.invariant.gains
      c.in_ok-put_body-in-Some.ensures;
}

pub returns : goal.returns
returns c =
    front_ends (λ r. FromRow Is (back c.args.net.now Uses r)) (heads c.args.net.now c.args.number) c.loop-at.at c.args.found.now c.loop-at.found
    (omega (arith, few_heads c.args.net.now c.args.number)) c.loop-at.invariant.gains

pub returns-in-None : goal.returns-in-None
returns-in-None c =
    front_ends (λ r. FromRow Is (back c.args.net.now Uses r)) (heads c.args.net.now c.args.number) c.loop-at.at c.args.found.now c.loop-at.found
    (none_past (heads c.args.net.now c.args.number) c.loop-at.at (sym c.heads.ensures ∙ c.in-None.is))
    c.loop-at.invariant.gains
