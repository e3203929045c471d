use Rattle.dl_calls.proofs.Runs.{replies_tell_states}
use Rattle.dl_calls.proofs.laws.replies_tell_states.Goals as goal

pub returns : goal.returns
returns c = replies_tell_states
