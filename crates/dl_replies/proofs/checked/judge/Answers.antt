use Rattle.std.proofs.Common.{subst, sym}
use Rattle.dl_theory.specs.declared.answer.Certificate.{Certificate}
use Rattle.dl_replies.specs.Checks.{IsJudged}
use Rattle.dl_replies.proofs.Judging.{derivation_judged, gap_judged}
use Rattle.dl_replies.proofs.checked.judge.Goals as goal

pub returns-in-Derivation : goal.returns-in-Derivation
returns-in-Derivation c =
    let T = c.args.theory.now in
    let checked = c.in_ok-checked-in-Derivation.checked in
    subst (λ (x : Certificate). IsJudged T x checked) (sym c.in-Derivation.is)
    (derivation_judged T c.in-Derivation.list c.check_derivation.result checked (c.check_derivation.ensures.answer T c.in_ok-checker.ensures)
    c.in_ok-checked-in-Derivation.ensures)

pub returns : goal.returns
returns c =
    let T = c.args.theory.now in
    let checked = c.in_ok-checked-in-Gap.checked in
    subst (λ (x : Certificate). IsJudged T x checked) (sym c.in-Gap.is)
    (gap_judged T c.in-Gap.list c.check_gap.result checked (c.check_gap.ensures.answer T c.in_ok-checker.ensures) c.in_ok-checked-in-Gap.ensures)
