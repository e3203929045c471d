use Rattle.std.proofs.lemmas.Result.{err_from_is_err_and}
use Rattle.std.proofs.Common.{arith}
use Rattle.dl_print.specs.Text.{spaced}
use Rattle.dl_print.proofs.Writes.{cut_line}
use Rattle.dl_print.proofs.requests.write_path.Goals as goal

pub returns-in_err-write_spaced-clause-bytes : goal.returns-in_err-write_spaced-clause-bytes
returns-in_err-write_spaced-clause-bytes g c =
    let p = err_from_is_err_and c.from_residual.result c.from_residual.ensures.1 in
    let cut = c.in_err-write_spaced.ensures.bytes in
    rw p.1 (cut_line spaced c.args.labels.now c.loop-label.label-index c.label-item.result _ _ _ cut.0 (omega arith) c.label-item.is c.loop-label.invariant.bytes cut.1 cut.2)
