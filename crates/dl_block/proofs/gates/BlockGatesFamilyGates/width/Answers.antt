use Rattle.dl_block.proofs.Block.{block_sound}
use Rattle.dl_block.proofs.gates.BlockGatesFamilyGates.width.Goals as goal

pub returns-clause-sound : goal.returns-clause-sound
returns-clause-sound c = block_sound
