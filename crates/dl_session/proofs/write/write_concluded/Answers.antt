use Rattle.std.proofs.Common.{length, codes}
use Rattle.std.proofs.lemmas.Result.{err_from_is_err_and}
use Rattle.dl_conclusions.specs.Text.{conclusions_text}
use Rattle.dl_print.proofs.Writes.{cut_first, then_all}
use Rattle.dl_session.specs.Text.{counted_line}
use Rattle.dl_session.proofs.write.write_concluded.Goals as goal

pub returns-in_err-write_count-clause-bytes : goal.returns-in_err-write_count-clause-bytes
returns-in_err-write_count-clause-bytes g c =
    let p = err_from_is_err_and c.from_residual.result c.from_residual.ensures.1 in
    rw p.1 (cut_first _ _ (counted_line (codes "lines ") (length c.args.list.now)) (conclusions_text c.args.family c.args.list.now) c.in_err-write_count.ensures.bytes)

pub returns-clause-bytes : goal.returns-clause-bytes
returns-clause-bytes g c = then_all _ _ _ _ (counted_line (codes "lines ") (length c.args.list.now)) (conclusions_text c.args.family c.args.list.now) c.in_ok-write_count.ensures.bytes c.write_list.ensures.bytes
