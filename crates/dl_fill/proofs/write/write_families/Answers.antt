use Rattle.dl_lit.specs.declared.literal.Family.TheVariants.{Definite, Blocking, Propagating, Support}
use Rattle.dl_fill.specs.Filled.{HasFired}
use Rattle.dl_fill.proofs.Families.{next_absent, next_owned, after_one, after_two, after_three, after_all}
use Rattle.dl_fill.proofs.write.write_families.Goals as goal

pub write_filled-requires-clause-absent : goal.write_filled-requires-clause-absent
write_filled-requires-clause-absent g c = c.requires.absent Definite

pub write_filled-requires-2-clause-owned : goal.write_filled-requires-2-clause-owned
write_filled-requires-2-clause-owned g c =
    next_owned (λ f. HasFired g.G.FamilyGates.table.width (g.G.FamilyGates.table.kind f) c.args.counters.now) g.G.FamilyGates.table.fills c.args.region.now.members c.args.marks.now
    Blocking c.write_filled.new.marks
    (after_one (λ f. HasFired g.G.FamilyGates.table.width (g.G.FamilyGates.table.kind f) c.args.counters.now) g.G.FamilyGates.table.fills c.args.region.now.members c.args.marks.now
    c.write_filled.new.marks (c.write_filled.ensures.written, c.write_filled.ensures.kept))
    c.requires.owned

pub write_filled-requires-2-clause-absent : goal.write_filled-requires-2-clause-absent
write_filled-requires-2-clause-absent g c = λ filled.
    next_absent (λ f. HasFired g.G.FamilyGates.table.width (g.G.FamilyGates.table.kind f) c.args.counters.now) g.G.FamilyGates.table.fills c.args.region.now.members c.args.marks.now
    Blocking c.write_filled.new.marks
    (after_one (λ f. HasFired g.G.FamilyGates.table.width (g.G.FamilyGates.table.kind f) c.args.counters.now) g.G.FamilyGates.table.fills c.args.region.now.members c.args.marks.now
    c.write_filled.new.marks (c.write_filled.ensures.written, c.write_filled.ensures.kept))
    (c.requires.absent Blocking filled)

pub write_filled-requires-3-clause-owned : goal.write_filled-requires-3-clause-owned
write_filled-requires-3-clause-owned g c =
    next_owned (λ f. HasFired g.G.FamilyGates.table.width (g.G.FamilyGates.table.kind f) c.args.counters.now) g.G.FamilyGates.table.fills c.args.region.now.members c.args.marks.now
    Propagating c.write_filled-2.new.marks
    (after_two (λ f. HasFired g.G.FamilyGates.table.width (g.G.FamilyGates.table.kind f) c.args.counters.now) g.G.FamilyGates.table.fills c.args.region.now.members c.args.marks.now
    c.write_filled.new.marks (c.write_filled.ensures.written, c.write_filled.ensures.kept)
    c.write_filled-2.new.marks (c.write_filled-2.ensures.written, c.write_filled-2.ensures.kept))
    c.requires.owned

pub write_filled-requires-3-clause-absent : goal.write_filled-requires-3-clause-absent
write_filled-requires-3-clause-absent g c = λ filled.
    next_absent (λ f. HasFired g.G.FamilyGates.table.width (g.G.FamilyGates.table.kind f) c.args.counters.now) g.G.FamilyGates.table.fills c.args.region.now.members c.args.marks.now
    Propagating c.write_filled-2.new.marks
    (after_two (λ f. HasFired g.G.FamilyGates.table.width (g.G.FamilyGates.table.kind f) c.args.counters.now) g.G.FamilyGates.table.fills c.args.region.now.members c.args.marks.now
    c.write_filled.new.marks (c.write_filled.ensures.written, c.write_filled.ensures.kept)
    c.write_filled-2.new.marks (c.write_filled-2.ensures.written, c.write_filled-2.ensures.kept))
    (c.requires.absent Propagating filled)

pub write_filled-requires-4-clause-owned : goal.write_filled-requires-4-clause-owned
write_filled-requires-4-clause-owned g c =
    next_owned (λ f. HasFired g.G.FamilyGates.table.width (g.G.FamilyGates.table.kind f) c.args.counters.now) g.G.FamilyGates.table.fills c.args.region.now.members c.args.marks.now
    Support c.write_filled-3.new.marks
    (after_three (λ f. HasFired g.G.FamilyGates.table.width (g.G.FamilyGates.table.kind f) c.args.counters.now) g.G.FamilyGates.table.fills c.args.region.now.members c.args.marks.now
    c.write_filled.new.marks (c.write_filled.ensures.written, c.write_filled.ensures.kept)
    c.write_filled-2.new.marks (c.write_filled-2.ensures.written, c.write_filled-2.ensures.kept)
    c.write_filled-3.new.marks (c.write_filled-3.ensures.written, c.write_filled-3.ensures.kept))
    c.requires.owned

pub write_filled-requires-4-clause-absent : goal.write_filled-requires-4-clause-absent
write_filled-requires-4-clause-absent g c = λ filled.
    next_absent (λ f. HasFired g.G.FamilyGates.table.width (g.G.FamilyGates.table.kind f) c.args.counters.now) g.G.FamilyGates.table.fills c.args.region.now.members c.args.marks.now
    Support c.write_filled-3.new.marks
    (after_three (λ f. HasFired g.G.FamilyGates.table.width (g.G.FamilyGates.table.kind f) c.args.counters.now) g.G.FamilyGates.table.fills c.args.region.now.members c.args.marks.now
    c.write_filled.new.marks (c.write_filled.ensures.written, c.write_filled.ensures.kept)
    c.write_filled-2.new.marks (c.write_filled-2.ensures.written, c.write_filled-2.ensures.kept)
    c.write_filled-3.new.marks (c.write_filled-3.ensures.written, c.write_filled-3.ensures.kept))
    (c.requires.absent Support filled)

pub returns-clause-written : goal.returns-clause-written
returns-clause-written g c =
    after_all (λ f. HasFired g.G.FamilyGates.table.width (g.G.FamilyGates.table.kind f) c.args.counters.now) g.G.FamilyGates.table.fills c.args.region.now.members c.args.marks.now
    c.write_filled.new.marks (c.write_filled.ensures.written, c.write_filled.ensures.kept)
    c.write_filled-2.new.marks (c.write_filled-2.ensures.written, c.write_filled-2.ensures.kept)
    c.write_filled-3.new.marks (c.write_filled-3.ensures.written, c.write_filled-3.ensures.kept)
    c.write_filled-4.new.marks (c.write_filled-4.ensures.written, c.write_filled-4.ensures.kept)
