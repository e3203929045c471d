use Rattle.dl_thread_tests.proofs.surveys.expect_survey.Given as goal

abbrev pub ghosts-edition_of : goal.ghosts-edition_of
ghosts-edition_of g a = record { name = a.blank.name; parts = a.blank.parts }
