use Rattle.std.proofs.lemmas.Result.{err_from_is_err_and}
use Rattle.dl_calls.specs.Text.{journal_text}
use Rattle.dl_journal.specs.Journal.{ends_text}
use Rattle.dl_print.proofs.Writes.{cut_first, then_all}
use Rattle.dl_journal.proofs.journal.write_served.Goals as goal

pub returns-in_err-write_history-clause-bytes : goal.returns-in_err-write_history-clause-bytes
returns-in_err-write_history-clause-bytes g c =
    let p = err_from_is_err_and c.from_residual.result c.from_residual.ensures.1 in
    rw p.1 (cut_first _ _ (journal_text c.args.board.now.history) (ends_text c.args.ends.now) c.in_err-write_history.ensures.bytes)

pub returns-clause-bytes : goal.returns-clause-bytes
returns-clause-bytes g c =
    then_all _ _ _ _ (journal_text c.args.board.now.history) (ends_text c.args.ends.now) c.in_ok-write_history.ensures.bytes c.write_ends.ensures.bytes
