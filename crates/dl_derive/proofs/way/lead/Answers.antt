use Rattle.std.proofs.Common.{ℕ, ◌<◌, List, length, arith, subst, ap, ◌∙◌}
use Rattle.dl_graph.specs.Counting.{times}
use Rattle.dl_derive.proofs.Running.{queue_inside, nodes_live, room_whole, room_names, room_rules, front_in_order, front_in_room, front_leads}
use Rattle.dl_derive.proofs.way.lead.Goals as goal

pub only-requires : goal.only-requires
only-requires g c =
    let inside = queue_inside g.G.FamilyGates.table (g.G.Gates.tells c.args.gates.now) c.width-width.ensures.sound c.args.net.now c.args.marks.now
    c.args.region.now c.args.parts.now.rules c.args.parts.now.counters c.requires.run c.args.node c.requires.fired in
    omega (arith, inside, c.size-size.ensures.size)

pub prune-requires-clause-width : goal.prune-requires-clause-width
prune-requires-clause-width g c = rw (c.width-width.ensures.width) (omega (arith, c.width-width.ensures.sound.table.rules))

pub prune-requires-clause-kinds : goal.prune-requires-clause-kinds
prune-requires-clause-kinds g c = rw (c.width-width.ensures.width, c.wires-wires.ensures) c.width-width.ensures.sound.table.kinds

pub prune-requires-clause-size : goal.prune-requires-clause-size
prune-requires-clause-size g c =
    rw (c.width-width.ensures.width)
    (room_whole g.G.FamilyGates.table (g.G.Gates.tells c.args.gates.now) c.width-width.ensures.sound c.args.net.now c.args.marks.now
    c.args.region.now c.args.parts.now.rules c.args.parts.now.counters c.requires.run
    (length c.deref-2.result.now) (ap length c.deref-2.ensures.value ∙ c.in_ok-wanted.ensures.len ∙ c.size-size.ensures.size))

pub prune-requires-clause-names : goal.prune-requires-clause-names
prune-requires-clause-names g c =
    rw (c.width-width.ensures.width)
    (room_names g.G.FamilyGates.table (g.G.Gates.tells c.args.gates.now) c.width-width.ensures.sound c.args.net.now c.args.marks.now
    c.args.region.now c.args.parts.now.rules c.args.parts.now.counters c.requires.run
    (length c.deref-2.result.now) (ap length c.deref-2.ensures.value ∙ c.in_ok-wanted.ensures.len ∙ c.size-size.ensures.size))

pub prune-requires-clause-rules : goal.prune-requires-clause-rules
prune-requires-clause-rules g c =
    rw (c.width-width.ensures.width)
    (room_rules g.G.FamilyGates.table (g.G.Gates.tells c.args.gates.now) c.width-width.ensures.sound c.args.net.now c.args.marks.now
    c.args.region.now c.args.parts.now.rules c.args.parts.now.counters c.requires.run
    (length c.deref-2.result.now) (ap length c.deref-2.ensures.value ∙ c.in_ok-wanted.ensures.len ∙ c.size-size.ensures.size))

pub prune-requires-clause-inside : goal.prune-requires-clause-inside
prune-requires-clause-inside g c = λ x m.
    let here : 0 < times x c.in_ok-nodes.nodes.items = subst (λ (xs : List ℕ). 0 < times x xs) c.deref.ensures.value m in
    let inside = front_in_room g.G.FamilyGates.table (g.G.Gates.tells c.args.gates.now) c.width-width.ensures.sound c.args.net.now c.args.marks.now
    c.args.region.now c.args.parts.now.rules c.args.parts.now.counters c.requires.run c.args.node c.in_ok-nodes.nodes.items c.in_ok-nodes.ensures x here in
    omega (arith, inside, ap length c.deref-2.ensures.value, c.in_ok-wanted.ensures.len, c.size-size.ensures.size)

pub prune-requires-clause-live : goal.prune-requires-clause-live
prune-requires-clause-live g c =
    rw (c.deref.ensures.value, c.width-width.ensures.width, c.wires-wires.ensures)
    (nodes_live g.G.FamilyGates.table (g.G.Gates.tells c.args.gates.now) c.width-width.ensures.sound c.args.net.now c.args.marks.now
    c.args.region.now c.args.parts.now.rules c.args.parts.now.counters c.requires.run
    c.in_ok-nodes.nodes.items (front_in_order g.G.FamilyGates.table (g.G.Gates.tells c.args.gates.now) c.width-width.ensures.sound c.args.net.now c.args.marks.now
    c.args.region.now c.args.parts.now.rules c.args.parts.now.counters c.requires.run c.args.node c.in_ok-nodes.nodes.items c.in_ok-nodes.ensures))

pub prune-requires-clause-order : goal.prune-requires-clause-order
prune-requires-clause-order g c =
    rw (c.deref.ensures.value, c.width-width.ensures.width, c.wires-wires.ensures)
    (front_in_order g.G.FamilyGates.table (g.G.Gates.tells c.args.gates.now) c.width-width.ensures.sound c.args.net.now c.args.marks.now
    c.args.region.now c.args.parts.now.rules c.args.parts.now.counters c.requires.run c.args.node c.in_ok-nodes.nodes.items c.in_ok-nodes.ensures).passing

pub returns : goal.returns
returns g c =
    front_leads g.G.FamilyGates.table (g.G.Gates.tells c.args.gates.now) c.width-width.ensures.sound c.args.net.now c.args.marks.now
    c.args.region.now c.args.parts.now.rules c.args.parts.now.counters c.requires.run c.args.node c.in_ok-nodes.nodes.items c.in_ok-nodes.ensures
    c.in_ok-wanted.wanted.items c.in_ok-kept.kept.items c.in_ok-wanted.ensures.has
    (rw (c.deref.ensures.value, c.deref-2.ensures.value, c.width-width.ensures.width, c.wires-wires.ensures) at c.in_ok-kept.ensures)
