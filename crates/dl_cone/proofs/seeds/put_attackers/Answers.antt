use Rattle.std.proofs.Common.{arith, sym, ◌∙◌}
use Rattle.dl_graph.specs.Numbers.{attackers_row, literal_at}
use Rattle.dl_fill.proofs.Reading.{attacker_inside}
use Rattle.dl_theory.specs.Lists.{attackers}
use Rattle.std.specs.Prelude.{Contains}
use Rattle.dl_derive.specs.Back.{Is, FromRow}
use Rattle.dl_derive.proofs.Gaining.{front_starts, front_goes, front_ends, gains_one, none_past}
use Rattle.dl_cone.specs.Walked.{IsNumberOf}
use Rattle.dl_cone.proofs.Raising.{gains_same, attacking}
use Rattle.dl_cone.proofs.seeds.put_attackers.Goals as goal

pub loop-attacker-init : goal.loop-attacker-init
loop-attacker-init c = record { gains = front_starts Is (attackers_row c.args.net.now (literal_at c.args.net.now c.args.number)) c.args.region.now }

pub put-requires : goal.put-requires
put-requires c =
    let inside = attacker_inside c.args.net.now c.requires.numbered c.args.number c.loop-attacker.at c.in-Some.attacker c.requires.number (sym c.attacker.ensures ∙ c.in-Some.is) in
    omega (arith, inside, c.loop-attacker.invariant.gains.bound, c.requires.bound, c.requires.number)

pub loop-attacker-preserved : goal.loop-attacker-preserved
loop-attacker-preserved c = record {
  gains =
      front_goes Is (attackers_row c.args.net.now (literal_at c.args.net.now c.args.number)) c.loop-attacker.at c.in-Some.attacker
      c.args.region.now c.loop-attacker.region c.put.new.self (sym c.attacker.ensures ∙ c.in-Some.is) c.loop-attacker.invariant.gains
      (gains_one c.loop-attacker.region c.put.new.self c.in-Some.attacker c.put.ensures.bound c.put.ensures.there c.put.ensures.new);
}

pub returns : goal.returns
returns c =
    let row = attackers_row c.args.net.now (literal_at c.args.net.now c.args.number) in
    gains_same (FromRow Is row) (IsNumberOf c.args.net.now (Contains (attackers c.args.net.now.theory (literal_at c.args.net.now c.args.number))))
    c.args.region.now c.loop-attacker.region
    (attacking c.args.net.now c.requires.numbered c.args.number c.requires.number)
    (front_ends Is row c.loop-attacker.at c.args.region.now c.loop-attacker.region
    (none_past row c.loop-attacker.at (sym c.attacker.ensures ∙ c.in_default.is)) c.loop-attacker.invariant.gains)
