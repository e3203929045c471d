use Rattle.dl_text_tests.proofs.marks.one_number_is_proved.Given as goal

abbrev pub ghosts-proved_once : goal.ghosts-proved_once
ghosts-proved_once g a = record { name = a.blank.name; parts = a.blank.parts }
