use Rattle.dl_session.proofs.Staying.{ends_more}
use Rattle.dl_session.proofs.laws.ends_stay.Goals as goal

pub returns : goal.returns
returns c = ends_more
