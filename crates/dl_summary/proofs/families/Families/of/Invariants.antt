use Rattle.dl_summary.specs.Answers.{AreFamilies}
use Rattle.dl_summary.proofs.families.Families.of.Given as goal

abbrev pub invariant-loop-answers : goal.invariant-loop-answers
invariant-loop-answers l = AreFamilies l.yielded l.families
