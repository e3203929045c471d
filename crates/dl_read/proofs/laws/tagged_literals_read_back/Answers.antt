use Rattle.dl_read.proofs.RequestTexts.{tagged_back}
use Rattle.dl_read.proofs.laws.tagged_literals_read_back.Goals as goal

pub returns : goal.returns
returns c = tagged_back
