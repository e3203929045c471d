use Rattle.dl_logic_tests.proofs.boards.an_edition_keeps_its_pair.Given as goal

abbrev pub ghosts-dropped_pair : goal.ghosts-dropped_pair
ghosts-dropped_pair g a = record { name = a.blank.name; parts = a.blank.parts }
