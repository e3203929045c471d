use Rattle.dl_replies.proofs.conclusion.conclusions.Given as goal

abbrev pub ghosts-saturated : goal.ghosts-saturated
ghosts-saturated a = record { name = a.blank.name; parts = a.blank.parts }
