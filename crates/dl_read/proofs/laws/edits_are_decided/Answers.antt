use Rattle.dl_read.proofs.Decided.{edits_are_decided}
use Rattle.dl_read.proofs.laws.edits_are_decided.Goals as goal

pub returns : goal.returns
returns c = edits_are_decided
