use Rattle.std.proofs.Common.{codes}
use Rattle.std.proofs.lemmas.Result.{err_from_is_err_and}
use Rattle.dl_print.specs.Text.{theory_text}
use Rattle.dl_edition.specs.Editions.{line_count}
use Rattle.dl_session.proofs.Counted.{cut_counted, then_counted}
use Rattle.dl_session.proofs.write.write_theory.Goals as goal

pub returns-in_err-write_count-clause-bytes : goal.returns-in_err-write_count-clause-bytes
returns-in_err-write_count-clause-bytes g c =
    let p = err_from_is_err_and c.from_residual.result c.from_residual.ensures.1 in
    rw p.1 (cut_counted _ _ (codes "lines ") c.lines-count.result (line_count c.args.held.now.theory) (theory_text c.args.held.now.theory) c.lines-count.ensures c.in_err-write_count.ensures.bytes)

pub returns-clause-bytes : goal.returns-clause-bytes
returns-clause-bytes g c =
    then_counted _ _ _ _ (codes "lines ") c.lines-count.result (line_count c.args.held.now.theory) (theory_text c.args.held.now.theory) c.lines-count.ensures
    c.in_ok-write_count.ensures.bytes c.write_text.ensures.bytes
