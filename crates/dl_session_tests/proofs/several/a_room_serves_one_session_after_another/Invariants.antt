use Rattle.dl_session_tests.proofs.several.a_room_serves_one_session_after_another.Given as goal

abbrev pub ghosts-expect_entries : goal.ghosts-expect_entries
ghosts-expect_entries g a = record { name = a.blank.name; parts = a.blank.parts }
