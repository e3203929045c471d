use Rattle.std.proofs.Common.{arith}
use Rattle.std.proofs.Common.{get_or}
use Rattle.dl_fill.proofs.Times.{times-get_or}
use Rattle.dl_fill.proofs.counters.Counters.hit_all.Goals as goal

pub hit_one-requires : goal.hit_one-requires
hit_one-requires c = c.requires.inside (get_or c.args.nodes.now 0 0) (times-get_or c.args.nodes.now 0 0 (omega (arith, c.in-len1.len_at_least)))
