use Rattle.std.proofs.lemmas.Result.{err_from_is_err_and}
use Rattle.dl_files.specs.Theories.{line_front}
use Rattle.dl_print.proofs.Writes.{cut_first, then_all}
use Rattle.dl_replies.proofs.write.write_bad_line.Goals as goal

pub returns-in_err-write_line_front-clause-bytes : goal.returns-in_err-write_line_front-clause-bytes
returns-in_err-write_line_front-clause-bytes g c =
    let p = err_from_is_err_and c.from_residual.result c.from_residual.ensures.1 in
    rw p.1 (cut_first _ _ (line_front c.args.line) (c.args.words.now) c.in_err-write_line_front.ensures.bytes)

pub returns-clause-bytes : goal.returns-clause-bytes
returns-clause-bytes g c = then_all _ _ _ _ (line_front c.args.line) (c.args.words.now) c.in_ok-write_line_front.ensures.bytes c.write_all.ensures.bytes
