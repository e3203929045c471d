use Rattle.dl_calls.proofs.Entries.{lines_tell_entries}
use Rattle.dl_calls.proofs.laws.lines_tell_entries.Goals as goal

pub returns : goal.returns
returns c = lines_tell_entries
