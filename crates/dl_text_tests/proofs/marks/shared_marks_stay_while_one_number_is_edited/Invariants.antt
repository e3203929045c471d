use Rattle.dl_text_tests.proofs.marks.shared_marks_stay_while_one_number_is_edited.Given as goal

abbrev pub ghosts-shared_and_edited : goal.ghosts-shared_and_edited
ghosts-shared_and_edited g a = record { name = a.blank.name; parts = a.blank.parts }
