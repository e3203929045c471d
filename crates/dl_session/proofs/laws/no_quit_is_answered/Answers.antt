use Rattle.dl_session.proofs.Staying.{no_quit}
use Rattle.dl_session.proofs.laws.no_quit_is_answered.Goals as goal

pub returns : goal.returns
returns c = no_quit
