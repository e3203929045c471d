use Rattle.dl_gen.proofs.OneSeat.{one_made}
use Rattle.dl_gen.proofs.run.publish.Goals as goal

pub returns-in-Ok : goal.returns-in-Ok
returns-in-Ok g c = one_made _ _ _ _ c.requires.may c.in-Ok.ensures.called
