use Rattle.dl_session_tests.proofs.several.two_sessions_publish_at_once.Given as goal

abbrev pub ghosts-expect_publications : goal.ghosts-expect_publications
ghosts-expect_publications g a = record { name = a.blank.name; parts = a.blank.parts }
