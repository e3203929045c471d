use Rattle.dl_logic_tests.proofs.drafts.a_net_that_two_share_stays_under_edits.Given as goal

abbrev pub ghosts-go_on : goal.ghosts-go_on
ghosts-go_on g a = record { name = a.blank.name; parts = a.blank.parts }
