use Rattle.dl_derive.proofs.copied.copied_marks.Given as goal

abbrev pub ghosts-copied : goal.ghosts-copied
ghosts-copied a = record { name = a.blank.name; parts = a.blank.parts }
