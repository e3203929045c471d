use Rattle.dl_session.proofs.Serving.{answered_more}
use Rattle.dl_session.proofs.laws.answers_stay.Goals as goal

pub returns : goal.returns
returns c = answered_more
