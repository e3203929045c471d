use Rattle.std.proofs.Common.{◌++◌, [], ◌∷◌}
use Rattle.std.proofs.lemmas.Result.{err_from_is_err_and}
use Rattle.std.specs.Prelude.{codes, decimal}
use Rattle.dl_print.proofs.Writes.{cut_first, cut_after, then_all}
use Rattle.dl_replies.proofs.write.write_rejected.Goals as goal

pub returns-in_err-write_all-clause-bytes : goal.returns-in_err-write_all-clause-bytes
returns-in_err-write_all-clause-bytes g c =
    let p = err_from_is_err_and c.from_residual.result c.from_residual.ensures.1 in
    rw p.1 (cut_first _ _ (codes "rejected ") (decimal c.args.line ++ (10 ∷ [])) c.in_err-write_all.ensures.bytes)

pub returns-in_err-write_number-clause-bytes : goal.returns-in_err-write_number-clause-bytes
returns-in_err-write_number-clause-bytes g c =
    let p = err_from_is_err_and c.from_residual-in_err-write_number.result c.from_residual-in_err-write_number.ensures.1 in
    rw p.1 (cut_after _ _ _ (codes "rejected ") (decimal c.args.line ++ (10 ∷ [])) c.in_ok-write_all.ensures.bytes (cut_first _ _ (decimal c.args.line) ((10 ∷ [])) c.in_err-write_number.ensures.bytes))

pub returns-clause-bytes : goal.returns-clause-bytes
returns-clause-bytes g c =
    then_all _ _ _ _ (codes "rejected ") (decimal c.args.line ++ (10 ∷ [])) c.in_ok-write_all.ensures.bytes
    (then_all _ _ _ _ (decimal c.args.line) ((10 ∷ [])) c.in_ok-write_number.ensures.bytes c.write_all-2.ensures.bytes)
