use Rattle.dl_logic_tests.proofs.costs.many_edits_of_a_large_theory.Given as goal

abbrev pub ghosts-edit_often : goal.ghosts-edit_often
ghosts-edit_often g a = record { name = a.blank.name; parts = a.blank.parts }
