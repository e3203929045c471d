use Rattle.std.proofs.Common.{◌≡◌, ◌∙◌, ◌<◌, ℕ, List, length, take, take-take, ap, sym, arith}
use Rattle.std.specs.List.{flat_map}
use Rattle.std.specs.Io.KnownBytes.{append_known}
use Rattle.std.proofs.lemmas.List.{get_or-take, length-take-le}
use Rattle.std.proofs.lemmas.Result.{err_from_is_err_and}
use Rattle.dl_lit.specs.Borrowed.{literal_of}
use Rattle.dl_conclusions.specs.declared.conclusion.Conclusion.{Conclusion}
use Rattle.dl_print.proofs.Writes.{cut_line, line_more}
use Rattle.dl_conclusions.specs.Text.{conclusion_line, lines_before}
use Rattle.dl_conclusions.proofs.Lines.{stands_at}
use Rattle.dl_conclusions.proofs.text.write_lines.Goals as goal

pub returns-in_err-write_line-clause-bytes : goal.returns-in_err-write_line-clause-bytes
returns-in_err-write_line-clause-bytes g c = λ before start.
    let p = err_from_is_err_and c.from_residual.result c.from_residual.ensures.1 in
    let cut = c.in_err-write_line.ensures.bytes in
    let f = conclusion_line c.args.family in
    let cs = c.args.conclusions.now in
    let i = c.loop-at.at in
    let to = c.args.to in
    let x : Conclusion = record { literal = literal_of c.at-verdict.result.0; verdict = c.at-verdict.result.1 } in
    let below : i < to = omega (arith, c.loop-at-test.true) in
    let within : i < length cs = omega (arith, below, c.requires.within) in
    let before_it = ap (λ (xs : List Conclusion). append_known before (flat_map f xs)) (sym (take-take i to cs (omega (arith, below)))) in
    rw p.1
    (cut_line f (take to cs) i x before _ _ cut.0 (omega (arith, below, length-take-le to cs c.requires.within))
    (stands_at cs i x within c.at-verdict.ensures ∙ sym (get_or-take to cs i x below)) (c.loop-at.invariant.bytes before start ∙ before_it) cut.1 cut.2)

pub loop-at-preserved : goal.loop-at-preserved
loop-at-preserved g c =
    let cs = c.args.conclusions.now in
    let i = c.loop-at.at in
    let x : Conclusion = record { literal = literal_of c.at-verdict.result.0; verdict = c.at-verdict.result.1 } in
    let within : i < length cs = omega (arith, c.loop-at-test.true, c.requires.within) in
    record {
      bytes = λ before start.
          line_more (conclusion_line c.args.family) cs i x before _ _ within (stands_at cs i x within c.at-verdict.ensures) (c.loop-at.invariant.bytes before start)
          c.in_ok-write_line.ensures.bytes;
      faults = c.in_ok-write_line.ensures.cause ∙ c.loop-at.invariant.faults;
      name = c.write_line.ensures.name ∙ c.loop-at.invariant.name;
    }

pub returns-clause-bytes : goal.returns-clause-bytes
returns-clause-bytes g c = λ before start.
    let end : c.loop-at.at ≡ c.args.to = omega (arith, c.loop-at-test.false, c.loop-at.auto.at, c.loop-at.auto.at-end, c.requires.ordered) in
    c.loop-at.invariant.bytes before start ∙ ap (λ (k : ℕ). append_known before (lines_before c.args.family c.args.conclusions.now k)) end
