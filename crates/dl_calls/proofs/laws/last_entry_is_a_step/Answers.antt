use Rattle.dl_calls.proofs.Runs.{last_entry_is_a_step}
use Rattle.dl_calls.proofs.laws.last_entry_is_a_step.Goals as goal

pub returns : goal.returns
returns c = last_entry_is_a_step
