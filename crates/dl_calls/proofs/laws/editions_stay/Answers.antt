use Rattle.dl_calls.proofs.Runs.{editions_stay}
use Rattle.dl_calls.proofs.laws.editions_stay.Goals as goal

pub returns : goal.returns
returns c = editions_stay
