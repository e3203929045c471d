use Rattle.dl_cone.proofs.Outside.{follows_outside}
use Rattle.dl_cone.proofs.laws.what_follows_outside_stays.Goals as goal

pub returns : goal.returns
returns c = follows_outside
