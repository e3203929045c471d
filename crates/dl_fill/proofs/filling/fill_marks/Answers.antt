use Rattle.std.proofs.Common.{length, arith}
use Rattle.dl_fill.specs.Families.{IsFilledBy}
use Rattle.dl_fill.specs.Filled.{HasFired}
use Rattle.dl_fill.proofs.Families.{families_filled, family_fits}
use Rattle.dl_fill.proofs.filling.fill_marks.Goals as goal

pub write_families-requires-clause-nodes : goal.write_families-requires-clause-nodes
write_families-requires-clause-nodes g c =
    family_fits g.G.FamilyGates.table (g.G.Gates.tells c.args.gates.now) c.width-width.ensures.sound
    c.args.parts.now.rules.bound (length c.solve_families.new.parts.counters.need) c.args.region.now.bound c.args.region.now.members
    c.len-len.ensures.region.below (omega (arith, c.requires.ready.bound, c.requires.names)) c.solve_families.ensures.size

pub returns-clause-filled : goal.returns-clause-filled
returns-clause-filled g c =
    families_filled c.args.net.now (IsFilledBy g.G.FamilyGates.table) c.args.region.now
    (λ f. HasFired g.G.FamilyGates.table.width (g.G.FamilyGates.table.kind f) c.solve_families.new.parts.counters) c.args.marks.now c.write_families.new.marks
    c.requires.ready c.len-len.ensures.region.below c.solve_families.ensures.solved c.write_families.ensures.written
