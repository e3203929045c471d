use Rattle.dl_logic_tests.proofs.drafts.a_refused_edit_changes_nothing.Given as goal

abbrev pub ghosts-refuse : goal.ghosts-refuse
ghosts-refuse g a = record { name = a.blank.name; parts = a.blank.parts }
