use Rattle.dl_laws.proofs.Causes.{edits_are_decided}
use Rattle.dl_laws.proofs.edits.edits_are_decided.Goals as goal

pub returns : goal.returns
returns c = edits_are_decided
