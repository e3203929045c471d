use Rattle.std.proofs.Common.{◌≡◌, map, take}
use Rattle.dl_summary.specs.Survey.{counts_of}
use Rattle.dl_summary.specs.Answers.{verdict_of}
use Rattle.dl_summary.proofs.counts.Counts.of.Given as goal

abbrev pub invariant-loop-answer : goal.invariant-loop-answer
invariant-loop-answer l = record {
  counted : l.counts ≡ counts_of (map verdict_of (take l.answer-index l.answers));
}
