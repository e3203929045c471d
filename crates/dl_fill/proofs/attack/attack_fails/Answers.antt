use Rattle.std.proofs.Common.{arith, sym, ◌∙◌}
use Rattle.dl_fill.proofs.Reading.{attacker_inside}
use Rattle.dl_fill.proofs.attack.attack_fails.Goals as goal

pub get-requires : goal.get-requires
get-requires c =
    let inside = attacker_inside c.args.net.now c.names-names.ensures.numbered c.args.number c.loop-attacker.at c.in-Some.attacker c.requires.number (sym c.attacker.ensures ∙ c.in-Some.is) in
    omega (arith, inside, c.requires.room)
