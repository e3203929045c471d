use Rattle.dl_thread_tests.proofs.desks.a_seat_gets_its_answers.Given as goal

abbrev pub ghosts-expect_entries : goal.ghosts-expect_entries
ghosts-expect_entries g a = record { name = a.blank.name; parts = a.blank.parts }
