use Rattle.dl_session.proofs.Seats.{made}
use Rattle.dl_session.proofs.calls.edit.Goals as goal

pub returns-in-Ok-clause-made : goal.returns-in-Ok-clause-made
returns-in-Ok-clause-made g c = made _ _ _ _ c.in-Ok.ensures.called

pub returns-in-Err-Refused-clause-made : goal.returns-in-Err-Refused-clause-made
returns-in-Err-Refused-clause-made g c = made _ _ _ _ (rw c.in-Err-Refused.field-0-is at c.in-Err-Refused.ensures.called)

pub returns-in-Err-Memory-clause-made : goal.returns-in-Err-Memory-clause-made
returns-in-Err-Memory-clause-made g c = made _ _ _ _ (rw c.in-Err-Memory.field-0-is at c.in-Err-Memory.ensures.called)
