use Rattle.dl_calls.proofs.Entries.{journals_tell_histories}
use Rattle.dl_calls.proofs.laws.journals_tell_histories.Goals as goal

pub returns : goal.returns
returns c = journals_tell_histories
