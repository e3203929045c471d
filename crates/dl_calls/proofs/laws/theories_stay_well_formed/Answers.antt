use Rattle.dl_calls.proofs.Runs.{theories_stay_well_formed}
use Rattle.dl_calls.proofs.laws.theories_stay_well_formed.Goals as goal

pub returns : goal.returns
returns c = theories_stay_well_formed
