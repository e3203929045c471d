use Rattle.dl_fill.proofs.Written.{family_written}
use Rattle.dl_fill.proofs.write.write_family.Goals as goal

pub returns-clause-written : goal.returns-clause-written
returns-clause-written g c =
    family_written g.G.FamilyGates.table.width (g.G.FamilyGates.table.kind c.args.family) c.args.counters.now c.args.family c.args.region.now.members
    c.args.marks.now c.write.new.marks c.write-2.new.marks c.requires.absent
    (rw (c.width.ensures.width, c.node_kind-for_plus.ensures) at c.write.ensures.written) (rw (c.width-2.ensures.width, c.node_kind-for_minus.ensures) at c.write-2.ensures.written)
