use Rattle.std.proofs.Common.{sym, subst}
use Rattle.std.specs.Prelude.{List}
use Rattle.dl_conclusions.specs.declared.conclusion.Conclusion.{Conclusion}
use Rattle.dl_conclusions.specs.Conclusions.{AreConclusions}
use Rattle.dl_conclusions.proofs.Concluding.{are_conclusions}
use Rattle.dl_conclusions.proofs.conclusion.ordered_conclusions.Goals as goal

pub returns : goal.returns
returns c =
    subst (λ (cs : List Conclusion). AreConclusions c.args.net.now.theory c.args.family cs) (sym c.in_ok-items.ensures)
    (are_conclusions c.args.net.now c.args.marks.now c.args.family c.requires.room c.requires.right c.args.order.now c.requires.order)
