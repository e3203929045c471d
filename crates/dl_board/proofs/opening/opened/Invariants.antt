use Rattle.dl_board.proofs.opening.opened.Given as goal

abbrev pub ghosts-counted_draft : goal.ghosts-counted_draft
ghosts-counted_draft a = record { name = a.blank.name; parts = a.blank.parts }
