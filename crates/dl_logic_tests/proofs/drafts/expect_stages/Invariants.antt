use Rattle.dl_logic_tests.proofs.drafts.expect_stages.Given as goal

abbrev pub ghosts-go_through : goal.ghosts-go_through
ghosts-go_through g a = record { name = a.blank.name; parts = a.blank.parts }
