use Rattle.dl_gen.proofs.OneSeat.{one_made}
use Rattle.dl_gen.proofs.run.make_edit.Goals as goal

pub returns-in-Ok : goal.returns-in-Ok
returns-in-Ok g c = one_made _ _ _ _ c.requires.may c.in-Ok.ensures.called

pub returns-in-Err-Refused : goal.returns-in-Err-Refused
returns-in-Err-Refused g c = one_made _ _ _ _ c.requires.may (rw c.in-Err-Refused.field-0-is at c.in-Err-Refused.ensures.called)
