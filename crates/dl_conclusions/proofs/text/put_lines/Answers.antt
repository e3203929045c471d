use Rattle.std.proofs.Common.{◌<◌, ◌+◌, length, ap, arith}
use Rattle.std.proofs.lemmas.List.{length-append}
use Rattle.dl_lit.specs.Borrowed.{literal_of}
use Rattle.dl_conclusions.specs.declared.conclusion.Conclusion.{Conclusion}
use Rattle.dl_conclusions.specs.Text.{conclusion_line, lines_before}
use Rattle.dl_conclusions.proofs.Lines.{next_line, no_shorter}
use Rattle.dl_conclusions.proofs.text.put_lines.Goals as goal

pub put_line-requires : goal.put_line-requires
put_line-requires c =
    let f = c.args.family in
    let cs = c.args.conclusions.now in
    let i = c.loop-at.at in
    let x : Conclusion = record { literal = literal_of c.at-verdict.result.0; verdict = c.at-verdict.result.1 } in
    let within : i < length cs = omega (arith, c.loop-at-test.true, c.requires.within) in
    omega (
      arith,
      c.loop-at.invariant.len,
      c.loop-at.invariant.capacity,
      c.requires.room,
      c.requires.empty,
      no_shorter f cs (i + 1) c.args.to (omega (arith, c.loop-at-test.true)),
      ap length (next_line f cs i x within c.at-verdict.ensures),
      length-append (lines_before f cs i) (conclusion_line f x),
    )
