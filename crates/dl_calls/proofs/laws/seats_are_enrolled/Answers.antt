use Rattle.dl_calls.proofs.Runs.{seats_are_enrolled}
use Rattle.dl_calls.proofs.laws.seats_are_enrolled.Goals as goal

pub returns : goal.returns
returns c = seats_are_enrolled
