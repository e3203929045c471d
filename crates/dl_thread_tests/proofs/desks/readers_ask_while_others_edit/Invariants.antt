use Rattle.dl_thread_tests.proofs.desks.readers_ask_while_others_edit.Given as goal

abbrev pub ghosts-expect_answered : goal.ghosts-expect_answered
ghosts-expect_answered g a = record { name = a.blank.name; parts = a.blank.parts }
