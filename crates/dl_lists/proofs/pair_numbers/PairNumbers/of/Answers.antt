use Rattle.std.proofs.Common.{ap}
use Rattle.std.specs.Prelude.{is_some}
use Rattle.dl_lists.proofs.pair_numbers.PairNumbers.of.Goals as goal

pub put-requires : goal.put-requires
put-requires c = ap is_some c.in_ok-prepare.ensures.ready
