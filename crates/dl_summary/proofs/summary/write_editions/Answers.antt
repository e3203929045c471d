use Rattle.std.proofs.Common.{[], ◌∷◌}
use Rattle.std.specs.Prelude.{codes}
use Rattle.std.proofs.lemmas.Result.{err_from_is_err_and}
use Rattle.dl_print.proofs.Writes.{cut_first, then_all}
use Rattle.dl_summary.specs.Summary.{counted_text}
use Rattle.dl_summary.proofs.summary.write_editions.Goals as goal

pub returns-in_err-write_counted-clause-bytes : goal.returns-in_err-write_counted-clause-bytes
returns-in_err-write_counted-clause-bytes g c =
    let p = err_from_is_err_and c.from_residual.result c.from_residual.ensures.1 in
    rw p.1 (cut_first _ _ (counted_text (codes "editions ") c.args.summary.now.editions) (10 ∷ []) c.in_err-write_counted.ensures.bytes)

pub returns-clause-bytes : goal.returns-clause-bytes
returns-clause-bytes g c =
    then_all _ _ _ _ (counted_text (codes "editions ") c.args.summary.now.editions) (10 ∷ []) c.in_ok-write_counted.ensures.bytes
    c.write_all.ensures.bytes
