use Rattle.dl_session.proofs.Seats.{made}
use Rattle.dl_session.proofs.calls.publish.Goals as goal

pub returns-in-Ok-clause-made : goal.returns-in-Ok-clause-made
returns-in-Ok-clause-made g c = made _ _ _ _ c.in-Ok.ensures.called

pub returns-in-Err-clause-made : goal.returns-in-Err-clause-made
returns-in-Err-clause-made g c = made _ _ _ _ c.in-Err.ensures.called
