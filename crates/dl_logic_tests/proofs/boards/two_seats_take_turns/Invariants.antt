use Rattle.dl_logic_tests.proofs.boards.two_seats_take_turns.Given as goal

abbrev pub ghosts-two_seats : goal.ghosts-two_seats
ghosts-two_seats g a = record { name = a.blank.name; parts = a.blank.parts }
