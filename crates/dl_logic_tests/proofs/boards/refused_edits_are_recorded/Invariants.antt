use Rattle.dl_logic_tests.proofs.boards.refused_edits_are_recorded.Given as goal

abbrev pub ghosts-refusals : goal.ghosts-refusals
ghosts-refusals g a = record { name = a.blank.name; parts = a.blank.parts }
