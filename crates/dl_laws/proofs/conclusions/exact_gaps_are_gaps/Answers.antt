use Rattle.dl_laws.proofs.ExactGaps.{exact_gaps_are_gaps}
use Rattle.dl_laws.proofs.conclusions.exact_gaps_are_gaps.Goals as goal

pub returns : goal.returns
returns c = exact_gaps_are_gaps
