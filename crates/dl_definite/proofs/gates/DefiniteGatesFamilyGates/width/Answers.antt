use Rattle.dl_definite.proofs.Definite.{definite_sound}
use Rattle.dl_definite.proofs.gates.DefiniteGatesFamilyGates.width.Goals as goal

pub returns-clause-sound : goal.returns-clause-sound
returns-clause-sound c = definite_sound
