use Rattle.std.proofs.Common.{◌≡◌, map, take}
use Rattle.dl_conclusions.specs.Conclusions.{conclusion_at}
use Rattle.dl_conclusions.proofs.conclusion.with_verdicts.Given as goal

abbrev pub invariant-loop-number : goal.invariant-loop-number
invariant-loop-number l = record {
  listed : l.list.items ≡ map (conclusion_at l.net l.marks l.family) (take l.number-index l.numbers);
}
