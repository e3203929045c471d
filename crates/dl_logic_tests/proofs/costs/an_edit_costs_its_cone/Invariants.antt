use Rattle.dl_logic_tests.proofs.costs.an_edit_costs_its_cone.Given as goal

abbrev pub ghosts-cost : goal.ghosts-cost
ghosts-cost g a = record { name = a.blank.name; parts = a.blank.parts }
