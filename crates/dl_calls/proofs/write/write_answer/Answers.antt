use Rattle.std.proofs.Common.{◌++◌, [], ◌∷◌, codes}
use Rattle.std.proofs.lemmas.Result.{err_from_is_err_and}
use Rattle.dl_calls.specs.Text.{reply_text}
use Rattle.dl_print.proofs.Writes.{cut_first, cut_after, then_all}
use Rattle.dl_calls.proofs.write.write_answer.Goals as goal

pub returns-in_err-write_all-clause-bytes : goal.returns-in_err-write_all-clause-bytes
returns-in_err-write_all-clause-bytes g c =
    let p = err_from_is_err_and c.from_residual.result c.from_residual.ensures.1 in
    rw p.1 (cut_first _ _ (codes " | ") (reply_text c.args.reply.now ++ (10 ∷ [])) c.in_err-write_all.ensures.bytes)

pub returns-in_err-write_reply-clause-bytes : goal.returns-in_err-write_reply-clause-bytes
returns-in_err-write_reply-clause-bytes g c =
    let p = err_from_is_err_and c.from_residual-in_err-write_reply.result c.from_residual-in_err-write_reply.ensures.1 in
    rw p.1 (cut_after _ _ _ (codes " | ") (reply_text c.args.reply.now ++ (10 ∷ [])) c.in_ok-write_all.ensures.bytes (cut_first _ _ (reply_text c.args.reply.now) ((10 ∷ [])) c.in_err-write_reply.ensures.bytes))

pub returns-clause-bytes : goal.returns-clause-bytes
returns-clause-bytes g c =
    then_all _ _ _ _ (codes " | ") (reply_text c.args.reply.now ++ (10 ∷ [])) c.in_ok-write_all.ensures.bytes (then_all _ _ _ _ (reply_text c.args.reply.now) ((10 ∷ [])) c.in_ok-write_reply.ensures.bytes c.write_all-2.ensures.bytes)
