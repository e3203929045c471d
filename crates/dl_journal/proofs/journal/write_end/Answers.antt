use Rattle.std.proofs.Common.{◌++◌, [], ◌∷◌, codes, decimal}
use Rattle.std.proofs.lemmas.Result.{err_from_is_err_and}
use Rattle.dl_journal.specs.Journal.{end_words}
use Rattle.dl_print.proofs.Writes.{cut_first, then_all}
use Rattle.dl_journal.proofs.journal.write_end.Goals as goal

pub returns-in_err-write_start-clause-bytes : goal.returns-in_err-write_start-clause-bytes
returns-in_err-write_start-clause-bytes g c =
    let p = err_from_is_err_and c.from_residual.result c.from_residual.ensures.1 in
    rw p.1 (cut_first _ _ (codes "session " ++ decimal c.args.number) (codes " " ++ (end_words c.args.end ++ 10 ∷ [])) c.in_err-write_start.ensures.bytes)

pub returns-clause-bytes : goal.returns-clause-bytes
returns-clause-bytes g c =
    then_all _ _ _ _ (codes "session " ++ decimal c.args.number) (codes " " ++ (end_words c.args.end ++ 10 ∷ [])) c.in_ok-write_start.ensures.bytes c.write_how.ensures.bytes
