use Rattle.dl_session_tests.proofs.ends.an_endless_line_is_cut_off.Given as goal

abbrev pub ghosts-expect_spent : goal.ghosts-expect_spent
ghosts-expect_spent g a = record { name = a.blank.name; parts = a.blank.parts }
