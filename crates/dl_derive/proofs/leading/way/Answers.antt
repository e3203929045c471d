use Rattle.std.proofs.Common.{arith}
use Rattle.dl_fill.proofs.Written.{exact_of_right}
use Rattle.dl_derive.proofs.Running.{run_fired, fired_inside}
use Rattle.dl_derive.proofs.leading.way.Goals as goal

pub lead-requires-clause-fired : goal.lead-requires-clause-fired
lead-requires-clause-fired g c =
    rw (c.width-width.ensures.width, c.node_kind.ensures)
    (run_fired g.G.FamilyGates.table (g.G.Gates.tells c.args.gates.now) c.width-width.ensures.sound c.args.net.now c.args.marks.now
    c.args.region.now c.in_ok-parts.parts.rules c.in_ok-parts.parts.counters c.in_ok-parts.ensures c.names-names.ensures.numbered c.args.number c.requires.asked.number
    c.requires.asked.back c.args.family c.requires.filled
    (λ h needed. exact_of_right c.args.net.now c.args.marks.now c.args.region.now h c.requires.asked.room (c.requires.asked.right h needed))
    c.args.plus c.requires.follows)

pub returns : goal.returns
returns g c = rw (c.width-width.ensures.width, c.node_kind.ensures) at c.in_ok-nodes.ensures

pub overflow_mul-node : goal.overflow_mul-node
overflow_mul-node g c =
    let inside =
    fired_inside g.G.FamilyGates.table (g.G.Gates.tells c.args.gates.now) c.width-width.ensures.sound c.args.net.now c.args.marks.now
    c.args.region.now c.in_ok-parts.parts.rules c.in_ok-parts.parts.counters c.in_ok-parts.ensures c.names-names.ensures.numbered c.args.number c.requires.asked.number
    c.requires.asked.back c.args.family c.requires.filled
    (λ h needed. exact_of_right c.args.net.now c.args.marks.now c.args.region.now h c.requires.asked.room (c.requires.asked.right h needed))
    c.args.plus c.requires.follows in
    rw (c.width-width.ensures.width) (omega (arith, inside, c.size-size.ensures.size, c.size-size.type_inv))

pub overflow_add-node : goal.overflow_add-node
overflow_add-node g c =
    let inside =
    fired_inside g.G.FamilyGates.table (g.G.Gates.tells c.args.gates.now) c.width-width.ensures.sound c.args.net.now c.args.marks.now
    c.args.region.now c.in_ok-parts.parts.rules c.in_ok-parts.parts.counters c.in_ok-parts.ensures c.names-names.ensures.numbered c.args.number c.requires.asked.number
    c.requires.asked.back c.args.family c.requires.filled
    (λ h needed. exact_of_right c.args.net.now c.args.marks.now c.args.region.now h c.requires.asked.room (c.requires.asked.right h needed))
    c.args.plus c.requires.follows in
    rw (c.width-width.ensures.width, c.node_kind.ensures) (omega (arith, inside, c.size-size.ensures.size, c.size-size.type_inv))

pub run-requires-clause-bound : goal.run-requires-clause-bound
run-requires-clause-bound g c = c.requires.asked.back.bound

pub run-requires-clause-room : goal.run-requires-clause-room
run-requires-clause-room g c = c.requires.asked.room

pub lead-requires-clause-bound : goal.lead-requires-clause-bound
lead-requires-clause-bound g c = c.requires.asked.back.bound

pub lead-requires-clause-room : goal.lead-requires-clause-room
lead-requires-clause-room g c = c.requires.asked.room
