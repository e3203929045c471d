use Rattle.dl_gen.proofs.run.summarize.Given as goal

abbrev pub ghosts-summarize_with : goal.ghosts-summarize_with
ghosts-summarize_with g a = record { name = a.blank.name; parts = a.blank.parts }
