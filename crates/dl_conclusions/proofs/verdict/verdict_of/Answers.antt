use Rattle.std.proofs.Common.{subst, sym, inl}
use Rattle.dl_lit.specs.declared.literal.Literal.{Literal}
use Rattle.dl_theory.specs.declared.answer.Verdict.{Verdict}
use Rattle.dl_theory.specs.Verdicts.{IsVerdict}
use Rattle.dl_theory.proofs.Unmentioned.{refuted}
use Rattle.dl_conclusions.specs.Conclusions.{verdict_at}
use Rattle.dl_conclusions.proofs.Concluding.{verdict_right}
use Rattle.dl_conclusions.proofs.Literals.{found_at}
use Rattle.dl_conclusions.proofs.verdict.verdict_of.Goals as goal

pub returns-in-Some : goal.returns-in-Some
returns-in-Some c =
    subst (λ (v : Verdict). IsVerdict c.args.net.now.theory c.args.family c.args.literal.now v) (sym c.marked_verdict.ensures)
    (subst (λ (q : Literal). IsVerdict c.args.net.now.theory c.args.family q (verdict_at c.args.marks.now c.args.family c.in-Some.number))
    (found_at c.args.net.now c.args.literal.now c.in-Some.number c.in-Some.ensures.there.0 c.in-Some.ensures.there.1)
    (verdict_right c.args.net.now c.args.marks.now c.args.family c.requires.room c.requires.right c.in-Some.number c.in-Some.ensures.there.0))

pub returns-in-None : goal.returns-in-None
returns-in-None c =
    refuted c.args.net.now.theory c.args.literal.now (λ o. c.in-None.ensures.absent (c.names-count.ensures.numbered.mentioned c.args.literal.now (inl o))) c.args.family
