use Rattle.dl_thread_tests.proofs.desks.two_threads_publish.Given as goal

abbrev pub ghosts-expect_publications : goal.ghosts-expect_publications
ghosts-expect_publications g a = record { name = a.blank.name; parts = a.blank.parts }
