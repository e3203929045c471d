use Rattle.std.proofs.Common.{◌∙◌}
use Rattle.dl_fill.specs.Before.{before_of}
use Rattle.dl_fill.proofs.Families.{run_solves}
use Rattle.dl_fill.proofs.Solving.{run_idle}
use Rattle.dl_fill.proofs.filling.solve_families.Goals as goal

pub solve-requires-clause-width : goal.solve-requires-clause-width
solve-requires-clause-width g c =
    rw (c.width.ensures.width, c.literals.ensures) c.width.ensures.sound.table.rules

pub solve-requires-clause-kinds : goal.solve-requires-clause-kinds
solve-requires-clause-kinds g c =
    rw (c.width.ensures.width, c.wires.ensures) c.width.ensures.sound.table.kinds

pub solve-requires-clause-wires : goal.solve-requires-clause-wires
solve-requires-clause-wires g c =
    rw (c.wires.ensures) c.width.ensures.sound.table.few

pub returns-clause-solved : goal.returns-clause-solved
returns-clause-solved g c =
    run_solves g.G.FamilyGates.table (g.G.Gates.tells c.args.gates.now) c.width.ensures.sound
    c.args.net.now c.names-names.ensures.numbered c.args.marks.now c.args.region.now c.solve.new.rules.members c.solve.new.counters
    (rw (c.width.ensures.width, c.literals.ensures, c.wires.ensures) at c.solve.ensures.run)
    c.args.parts.now.rules.bound (c.solve.ensures.size ∙ c.requires.idle.size) c.requires.names c.requires.rules
    c.len-len.ensures.region.below c.requires.ready c.requires.below

pub returns-clause-idle : goal.returns-clause-idle
returns-clause-idle g c =
    run_idle c.args.net.now (before_of c.args.marks.now c.args.region.now) c.args.region.now.members g.G.FamilyGates.table.width g.G.FamilyGates.table.literals
    c.width.ensures.sound.table.rules g.G.FamilyGates.table.wires
    (g.G.Gates.tells c.args.gates.now c.args.net.now (before_of c.args.marks.now c.args.region.now)) c.solve.new.rules.members c.solve.new.counters
    (rw (c.width.ensures.width, c.literals.ensures, c.wires.ensures) at c.solve.ensures.run)
