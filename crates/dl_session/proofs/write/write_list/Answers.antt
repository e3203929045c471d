use Rattle.std.proofs.lemmas.Result.{err_from_is_err_and}
use Rattle.std.proofs.Common.{arith}
use Rattle.dl_conclusions.specs.Text.{conclusion_line}
use Rattle.dl_print.proofs.Writes.{cut_line}
use Rattle.dl_session.proofs.write.write_list.Goals as goal

pub returns-in_err-write_one-clause-bytes : goal.returns-in_err-write_one-clause-bytes
returns-in_err-write_one-clause-bytes g c =
    let p = err_from_is_err_and c.from_residual.result c.from_residual.ensures.1 in
    let cut = c.in_err-write_one.ensures.bytes in
    rw p.1 (cut_line (conclusion_line c.args.family) c.args.list.now c.loop-conclusion.conclusion-index c.conclusion-item.result _ _ _ cut.0 (omega arith) c.conclusion-item.is c.loop-conclusion.invariant.bytes cut.1 cut.2)
