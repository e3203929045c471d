use Rattle.dl_logic_tests.proofs.drafts.each_family_is_marked.Given as goal

abbrev pub ghosts-mark_ambiguous : goal.ghosts-mark_ambiguous
ghosts-mark_ambiguous g a = record { name = a.blank.name; parts = a.blank.parts }
