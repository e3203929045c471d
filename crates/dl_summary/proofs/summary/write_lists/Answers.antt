use Rattle.std.proofs.Common.{◌++◌, [], ◌∷◌}
use Rattle.std.specs.Prelude.{codes}
use Rattle.std.proofs.lemmas.Result.{err_from_is_err_and}
use Rattle.dl_print.proofs.Writes.{cut_first, then_all, cut_after}
use Rattle.dl_summary.specs.Summary.{counted_text}
use Rattle.dl_summary.proofs.summary.write_lists.Goals as goal

pub returns-in_err-write_counted-clause-bytes : goal.returns-in_err-write_counted-clause-bytes
returns-in_err-write_counted-clause-bytes g c =
    let p = err_from_is_err_and c.from_residual.result c.from_residual.ensures.1 in
    rw p.1 (cut_first _ _ (counted_text (codes "facts ") c.args.summary.now.facts) (counted_text (codes " rules ") c.args.summary.now.rules ++ (counted_text (codes " pairs ") c.args.summary.now.pairs ++ 10 ∷ [])) c.in_err-write_counted.ensures.bytes)

pub returns-in_err-write_counted-2-clause-bytes : goal.returns-in_err-write_counted-2-clause-bytes
returns-in_err-write_counted-2-clause-bytes g c =
    let p = err_from_is_err_and c.from_residual-in_err-write_counted-2.result c.from_residual-in_err-write_counted-2.ensures.1 in
    rw p.1 (cut_after _ _ _ (counted_text (codes "facts ") c.args.summary.now.facts) (counted_text (codes " rules ") c.args.summary.now.rules ++ (counted_text (codes " pairs ") c.args.summary.now.pairs ++ 10 ∷ [])) c.in_ok-write_counted.ensures.bytes
    (cut_first _ _ (counted_text (codes " rules ") c.args.summary.now.rules) (counted_text (codes " pairs ") c.args.summary.now.pairs ++ 10 ∷ []) c.in_err-write_counted-2.ensures.bytes))

pub returns-in_err-write_counted-3-clause-bytes : goal.returns-in_err-write_counted-3-clause-bytes
returns-in_err-write_counted-3-clause-bytes g c =
    let p = err_from_is_err_and c.from_residual-in_err-write_counted-3.result c.from_residual-in_err-write_counted-3.ensures.1 in
    rw p.1 (cut_after _ _ _ (counted_text (codes "facts ") c.args.summary.now.facts) (counted_text (codes " rules ") c.args.summary.now.rules ++ (counted_text (codes " pairs ") c.args.summary.now.pairs ++ 10 ∷ [])) c.in_ok-write_counted.ensures.bytes
    (cut_after _ _ _ (counted_text (codes " rules ") c.args.summary.now.rules) (counted_text (codes " pairs ") c.args.summary.now.pairs ++ 10 ∷ []) c.in_ok-write_counted-2.ensures.bytes
    (cut_first _ _ (counted_text (codes " pairs ") c.args.summary.now.pairs) (10 ∷ []) c.in_err-write_counted-3.ensures.bytes)))

pub returns-clause-bytes : goal.returns-clause-bytes
returns-clause-bytes g c =
    then_all _ _ _ _ (counted_text (codes "facts ") c.args.summary.now.facts) (counted_text (codes " rules ") c.args.summary.now.rules ++ (counted_text (codes " pairs ") c.args.summary.now.pairs ++ 10 ∷ [])) c.in_ok-write_counted.ensures.bytes
    (then_all _ _ _ _ (counted_text (codes " rules ") c.args.summary.now.rules) (counted_text (codes " pairs ") c.args.summary.now.pairs ++ 10 ∷ []) c.in_ok-write_counted-2.ensures.bytes
    (then_all _ _ _ _ (counted_text (codes " pairs ") c.args.summary.now.pairs) (10 ∷ []) c.in_ok-write_counted-3.ensures.bytes
    c.write_all.ensures.bytes))
