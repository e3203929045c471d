use Rattle.dl_fill.proofs.filling.fill_with.Goals as goal

pub tidy-requires-clause-width : goal.tidy-requires-clause-width
tidy-requires-clause-width g c =
    rw (c.width-width.ensures.width, c.literals.ensures) c.width-width.ensures.sound.table.rules
