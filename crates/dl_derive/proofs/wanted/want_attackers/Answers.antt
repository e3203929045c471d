use Rattle.std.proofs.Common.{arith, sym, ◌∙◌}
use Rattle.dl_graph.specs.Numbers.{attackers_row, literal_at}
use Rattle.dl_fill.proofs.Reading.{attacker_inside}
use Rattle.dl_derive.proofs.Gaining.{none_past}
use Rattle.dl_derive.proofs.Wanting.{more_none, more_then, in_front_next, in_front_all}
use Rattle.dl_derive.proofs.wanted.want_attackers.Goals as goal

pub loop-attacker-init : goal.loop-attacker-init
loop-attacker-init c = record { more = more_none c.args.wanted.now.items; front = λ k before inside. absurd (omega (arith, before)) }

pub overflow_mul-attacker : goal.overflow_mul-attacker
overflow_mul-attacker c =
    let inside = attacker_inside c.args.net.now c.names-names.ensures.numbered c.args.number c.loop-attacker.at c.in-Some.attacker c.requires.number (sym c.attacker.ensures ∙ c.in-Some.is) in
    omega (arith, inside, c.requires.size, c.len-size.ensures, c.len-size.type_inv)

pub overflow_add-attacker : goal.overflow_add-attacker
overflow_add-attacker c =
    let inside = attacker_inside c.args.net.now c.names-names.ensures.numbered c.args.number c.loop-attacker.at c.in-Some.attacker c.requires.number (sym c.attacker.ensures ∙ c.in-Some.is) in
    omega (arith, inside, c.requires.kind, c.requires.size, c.len-size.ensures, c.len-size.type_inv)

pub want-requires : goal.want-requires
want-requires c =
    let inside = attacker_inside c.args.net.now c.names-names.ensures.numbered c.args.number c.loop-attacker.at c.in-Some.attacker c.requires.number (sym c.attacker.ensures ∙ c.in-Some.is) in
    omega (arith, inside, c.requires.kind, c.requires.size, c.loop-attacker.invariant.more.len)

pub loop-attacker-preserved : goal.loop-attacker-preserved
loop-attacker-preserved c = record {
  more = more_then c.args.wanted.now.items c.loop-attacker.wanted.items c.want.new.wanted.items c.loop-attacker.invariant.more c.want.ensures.more;
  front =
      in_front_next (attackers_row c.args.net.now (literal_at c.args.net.now c.args.number)) c.args.kind c.loop-attacker.at c.in-Some.attacker
      c.loop-attacker.wanted.items c.want.new.wanted.items (sym c.attacker.ensures ∙ c.in-Some.is) c.want.ensures.more c.want.ensures.node c.loop-attacker.invariant.front;
}

pub returns-clause-all : goal.returns-clause-all
returns-clause-all c =
    in_front_all (attackers_row c.args.net.now (literal_at c.args.net.now c.args.number)) c.args.kind c.loop-attacker.at c.loop-attacker.wanted.items
    (none_past (attackers_row c.args.net.now (literal_at c.args.net.now c.args.number)) c.loop-attacker.at (sym c.attacker.ensures ∙ c.in_default.is))
    c.loop-attacker.invariant.front
