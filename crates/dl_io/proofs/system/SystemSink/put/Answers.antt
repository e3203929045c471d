use Rattle.std.proofs.Common.{◌∙◌}
use Rattle.dl_io.proofs.Known.{known_front-trans, writes_front, writes_through}
use Rattle.dl_io.proofs.system.SystemSink.put.Goals as goal

pub returns-then-piece-capacity-2-clause-bytes : goal.returns-then-piece-capacity-2-clause-bytes
returns-then-piece-capacity-2-clause-bytes g c =
    writes_through _ _ _ _ _ _ _ c.in_ok-hand_on.ensures.empty (c.in_ok-hand_on.ensures.whole ∙ c.hand_on.ensures.bytes) c.write_retried.ensures.bytes

pub returns-then-piece-capacity-2-clause-handed : goal.returns-then-piece-capacity-2-clause-handed
returns-then-piece-capacity-2-clause-handed g c =
    known_front-trans _ _ _ c.hand_on.ensures.handed (writes_front _ _ c.write_retried.result _ c.write_retried.ensures.bytes)
