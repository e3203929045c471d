use Rattle.dl_calls.proofs.Runs.{enrolments_count_up}
use Rattle.dl_calls.proofs.laws.enrolments_count_up.Goals as goal

pub returns : goal.returns
returns c = enrolments_count_up
