use Rattle.dl_read.proofs.RequestTexts.{edit_back}
use Rattle.dl_read.proofs.laws.edits_read_back.Goals as goal

pub returns : goal.returns
returns c = edit_back
