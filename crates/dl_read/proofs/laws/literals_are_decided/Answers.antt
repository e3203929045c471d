use Rattle.dl_read.proofs.Decided.{literals_are_decided}
use Rattle.dl_read.proofs.laws.literals_are_decided.Goals as goal

pub returns : goal.returns
returns c = literals_are_decided
