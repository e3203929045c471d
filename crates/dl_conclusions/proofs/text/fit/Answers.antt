use Rattle.std.proofs.Common.{◌<◌, [], ◌∷◌, length, ap, arith}
use Rattle.std.proofs.lemmas.List.{length-append}
use Rattle.dl_lit.specs.Borrowed.{literal_of}
use Rattle.dl_conclusions.specs.declared.conclusion.Conclusion.{Conclusion}
use Rattle.dl_print.specs.Conclusion.{conclusion_text}
use Rattle.dl_conclusions.specs.Text.{conclusion_line, lines_before}
use Rattle.dl_conclusions.proofs.Lines.{next_line}
use Rattle.dl_conclusions.proofs.text.fit.Goals as goal

pub loop-at-preserved : goal.loop-at-preserved
loop-at-preserved c = λ family.
    let cs = c.args.conclusions.now in
    let i = c.loop-at.at in
    let x : Conclusion = record { literal = literal_of c.at.result.0; verdict = c.at.result.1 } in
    let within : i < length cs = omega (arith, c.loop-at-test.true, c.requires.within) in
    omega (
      arith,
      c.loop-at.invariant family,
      c.in-Some.ensures.left,
      c.room_behind.ensures.enough x.verdict family,
      c.if-behind-gt0.true,
      ap length (next_line family cs i x within c.at.ensures),
      length-append (lines_before family cs i) (conclusion_line family x),
      length-append (conclusion_text x.verdict family x.literal) (10 ∷ []),
    )
