use Rattle.std.proofs.Common.{ℕ, ◌<◌, List, length, arith, sym, subst, ◌∙◌}
use Rattle.dl_graph.specs.Counting.{times}
use Rattle.dl_fill.specs.Before.{before_of}
use Rattle.dl_fill.proofs.Pruning.{pruned_ordered}
use Rattle.dl_derive.proofs.Running.{queue_ordered, queue_inside, nodes_live, room_whole, room_names, room_rules}
use Rattle.dl_derive.proofs.way.rest.Goals as goal

pub prune-requires-clause-width : goal.prune-requires-clause-width
prune-requires-clause-width g c = rw (c.width-width.ensures.width) (omega (arith, c.width-width.ensures.sound.table.rules))

pub prune-requires-clause-kinds : goal.prune-requires-clause-kinds
prune-requires-clause-kinds g c = rw (c.width-width.ensures.width, c.wires-wires.ensures) c.width-width.ensures.sound.table.kinds

pub prune-requires-clause-size : goal.prune-requires-clause-size
prune-requires-clause-size g c =
    rw (c.width-width.ensures.width)
    (room_whole g.G.FamilyGates.table (g.G.Gates.tells c.args.gates.now) c.width-width.ensures.sound c.args.net.now c.args.marks.now
    c.args.region.now c.args.parts.now.rules c.args.parts.now.counters c.requires.run
    (length c.args.wanted.now) c.requires.wanted)

pub prune-requires-clause-names : goal.prune-requires-clause-names
prune-requires-clause-names g c =
    rw (c.width-width.ensures.width)
    (room_names g.G.FamilyGates.table (g.G.Gates.tells c.args.gates.now) c.width-width.ensures.sound c.args.net.now c.args.marks.now
    c.args.region.now c.args.parts.now.rules c.args.parts.now.counters c.requires.run
    (length c.args.wanted.now) c.requires.wanted)

pub prune-requires-clause-rules : goal.prune-requires-clause-rules
prune-requires-clause-rules g c =
    rw (c.width-width.ensures.width)
    (room_rules g.G.FamilyGates.table (g.G.Gates.tells c.args.gates.now) c.width-width.ensures.sound c.args.net.now c.args.marks.now
    c.args.region.now c.args.parts.now.rules c.args.parts.now.counters c.requires.run
    (length c.args.wanted.now) c.requires.wanted)

pub prune-requires-clause-inside : goal.prune-requires-clause-inside
prune-requires-clause-inside g c = λ x m.
    let here : 0 < times x c.args.parts.now.counters.queue = subst (λ (xs : List ℕ). 0 < times x xs) (c.deref.ensures.value ∙ c.in_ok-all.ensures) m in
    let inside = queue_inside g.G.FamilyGates.table (g.G.Gates.tells c.args.gates.now) c.width-width.ensures.sound c.args.net.now c.args.marks.now
    c.args.region.now c.args.parts.now.rules c.args.parts.now.counters c.requires.run x here in
    omega (arith, inside, c.requires.wanted)

pub prune-requires-clause-live : goal.prune-requires-clause-live
prune-requires-clause-live g c =
    rw (c.deref.ensures.value, c.in_ok-all.ensures, c.width-width.ensures.width, c.wires-wires.ensures)
    (nodes_live g.G.FamilyGates.table (g.G.Gates.tells c.args.gates.now) c.width-width.ensures.sound c.args.net.now c.args.marks.now
    c.args.region.now c.args.parts.now.rules c.args.parts.now.counters c.requires.run
    c.args.parts.now.counters.queue (queue_ordered g.G.FamilyGates.table (g.G.Gates.tells c.args.gates.now) c.width-width.ensures.sound c.args.net.now c.args.marks.now
    c.args.region.now c.args.parts.now.rules c.args.parts.now.counters c.requires.run))

pub prune-requires-clause-order : goal.prune-requires-clause-order
prune-requires-clause-order g c =
    rw (c.deref.ensures.value, c.in_ok-all.ensures, c.width-width.ensures.width, c.wires-wires.ensures)
    (queue_ordered g.G.FamilyGates.table (g.G.Gates.tells c.args.gates.now) c.width-width.ensures.sound c.args.net.now c.args.marks.now
    c.args.region.now c.args.parts.now.rules c.args.parts.now.counters c.requires.run).passing

pub returns-clause-ordered : goal.returns-clause-ordered
returns-clause-ordered g c =
    pruned_ordered c.args.net.now (before_of c.args.marks.now c.args.region.now) g.G.FamilyGates.table.width g.G.FamilyGates.table.literals g.G.FamilyGates.table.wires
    (g.G.Gates.tells c.args.gates.now c.args.net.now (before_of c.args.marks.now c.args.region.now))
    c.args.parts.now.counters.queue c.args.wanted.now c.in_ok-kept.kept.items (queue_ordered g.G.FamilyGates.table (g.G.Gates.tells c.args.gates.now) c.width-width.ensures.sound c.args.net.now c.args.marks.now
    c.args.region.now c.args.parts.now.rules c.args.parts.now.counters c.requires.run)
    (rw (c.deref.ensures.value, c.in_ok-all.ensures, c.width-width.ensures.width, c.wires-wires.ensures) at c.in_ok-kept.ensures)

pub returns-clause-has : goal.returns-clause-has
returns-clause-has g c = λ x fired wanted.
    c.in_ok-kept.ensures.has x (subst (λ (xs : List ℕ). 0 < times x xs) (sym (c.deref.ensures.value ∙ c.in_ok-all.ensures)) fired) wanted
