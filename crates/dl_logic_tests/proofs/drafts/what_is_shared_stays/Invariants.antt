use Rattle.dl_logic_tests.proofs.drafts.what_is_shared_stays.Given as goal

abbrev pub ghosts-share : goal.ghosts-share
ghosts-share g a = record { name = a.blank.name; parts = a.blank.parts }
