use Rattle.dl_prop.proofs.Propagation.{propagation_sound}
use Rattle.dl_prop.proofs.gates.PropGatesFamilyGates.width.Goals as goal

pub returns-clause-sound : goal.returns-clause-sound
returns-clause-sound c = propagation_sound
