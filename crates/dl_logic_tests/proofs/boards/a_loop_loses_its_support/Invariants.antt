use Rattle.dl_logic_tests.proofs.boards.a_loop_loses_its_support.Given as goal

abbrev pub ghosts-loop_support : goal.ghosts-loop_support
ghosts-loop_support g a = record { name = a.blank.name; parts = a.blank.parts }
