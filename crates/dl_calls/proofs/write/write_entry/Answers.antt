use Rattle.std.proofs.Common.{◌++◌, [], ◌∷◌, codes, decimal}
use Rattle.std.proofs.lemmas.Result.{err_from_is_err_and}
use Rattle.dl_calls.specs.Text.{call_text, reply_text}
use Rattle.dl_print.proofs.Writes.{cut_first, then_all}
use Rattle.dl_calls.proofs.Entries.{lines_tell_entries}
use Rattle.dl_calls.proofs.write.write_entry.Goals as goal

pub returns-in_err-write_question-clause-bytes : goal.returns-in_err-write_question-clause-bytes
returns-in_err-write_question-clause-bytes g c =
    let p = err_from_is_err_and c.from_residual.result c.from_residual.ensures.1 in
    rw p.1 (cut_first _ _ (decimal c.args.entry.now.seat ++ (codes " | " ++ call_text c.args.entry.now.call)) (codes " | " ++ (reply_text c.args.entry.now.reply ++ 10 ∷ [])) c.in_err-write_question.ensures.bytes)

pub returns-clause-bytes : goal.returns-clause-bytes
returns-clause-bytes g c = then_all _ _ _ _ (decimal c.args.entry.now.seat ++ (codes " | " ++ call_text c.args.entry.now.call)) (codes " | " ++ (reply_text c.args.entry.now.reply ++ 10 ∷ [])) c.in_ok-write_question.ensures.bytes c.write_answer.ensures.bytes

pub returns-in_err-write_question-clause-tells : goal.returns-in_err-write_question-clause-tells
returns-in_err-write_question-clause-tells g c = lines_tell_entries c.args.entry.now

pub returns-clause-tells : goal.returns-clause-tells
returns-clause-tells g c = lines_tell_entries c.args.entry.now
