use Rattle.dl_theory.proofs.Unmentioned.{refuted}
use Rattle.dl_laws.proofs.conclusions.unmentioned_literals_are_refuted.Goals as goal

pub returns : goal.returns
returns c = refuted
