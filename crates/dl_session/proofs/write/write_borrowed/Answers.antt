use Rattle.std.proofs.Common.{[], ◌∷◌}
use Rattle.std.proofs.lemmas.Result.{err_from_is_err_and}
use Rattle.dl_lit.specs.Borrowed.{literal_of}
use Rattle.dl_print.specs.Conclusion.{conclusion_text}
use Rattle.dl_print.proofs.Writes.{cut_first, then_all}
use Rattle.dl_session.proofs.write.write_borrowed.Goals as goal

pub returns-in_err-write_conclusion-clause-bytes : goal.returns-in_err-write_conclusion-clause-bytes
returns-in_err-write_conclusion-clause-bytes g c =
    let p = err_from_is_err_and c.from_residual.result c.from_residual.ensures.1 in
    rw p.1 (cut_first _ _ (conclusion_text c.args.verdict c.args.family (literal_of c.args.literal)) (10 ∷ []) c.in_err-write_conclusion.ensures.bytes)

pub returns-clause-bytes : goal.returns-clause-bytes
returns-clause-bytes g c = then_all _ _ _ _ (conclusion_text c.args.verdict c.args.family (literal_of c.args.literal)) (10 ∷ []) c.in_ok-write_conclusion.ensures.bytes c.write_all.ensures.bytes
