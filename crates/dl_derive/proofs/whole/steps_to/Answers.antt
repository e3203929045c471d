use Rattle.std.proofs.Common.{ap}
use Rattle.dl_definite.specs.Definite.{definite_fills}
use Rattle.dl_block.specs.Block.{block_fills}
use Rattle.dl_prop.specs.Propagation.{propagation_fills}
use Rattle.dl_derive.proofs.whole.steps_to.Goals as goal

pub led-requires-clause-filled : goal.led-requires-clause-filled
led-requires-clause-filled c = ap definite_fills c.in-Definite.is

pub led-requires-in-Blocking-clause-filled : goal.led-requires-in-Blocking-clause-filled
led-requires-in-Blocking-clause-filled c = ap block_fills c.in-Blocking.is

pub led-requires-in-Propagating-clause-filled : goal.led-requires-in-Propagating-clause-filled
led-requires-in-Propagating-clause-filled c = ap propagation_fills c.in-Propagating.is

pub led-requires-in-Support-clause-filled : goal.led-requires-in-Support-clause-filled
led-requires-in-Support-clause-filled c = ap propagation_fills c.in-Support.is
