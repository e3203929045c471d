use Rattle.dl_request.proofs.read.hold.Goals as goal

pub returns-in_err-edition : goal.returns-in_err-edition
returns-in_err-edition c = rw c.from_residual.ensures (λ x b. c.in_err-edition.ensures b.0 b.1)
