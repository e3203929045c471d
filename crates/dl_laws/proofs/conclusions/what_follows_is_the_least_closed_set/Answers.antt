use Rattle.dl_laws.proofs.Saturating.{follows_is_least}
use Rattle.dl_laws.proofs.conclusions.what_follows_is_the_least_closed_set.Goals as goal

pub returns : goal.returns
returns c = follows_is_least
