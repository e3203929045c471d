use Rattle.std.proofs.Common.{subst}
use Rattle.dl_session.specs.Lent.{StillHands}
use Rattle.dl_session.proofs.Handing.{lent_name-handed}
use Rattle.dl_session.proofs.lent.LentSink.send.Goals as goal

pub returns-clause-still : goal.returns-clause-still
returns-clause-still g c =
    subst (λ was. StillHands was (g.P.Sink.handed c.send.new.sink.sink.now)) (lent_name-handed _ _ _ _ _ _ c.send.ensures.name) c.send.new.sink.still
