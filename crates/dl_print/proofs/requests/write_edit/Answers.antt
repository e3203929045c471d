use Rattle.std.proofs.lemmas.Result.{err_from_is_err_and}
use Rattle.dl_print.specs.Text.{keyword_text, object_text}
use Rattle.dl_print.proofs.Writes.{cut_first, then_all}
use Rattle.dl_print.proofs.requests.write_edit.Goals as goal

pub returns-in_err-write_keyword-clause-bytes : goal.returns-in_err-write_keyword-clause-bytes
returns-in_err-write_keyword-clause-bytes g c =
    let p = err_from_is_err_and c.from_residual.result c.from_residual.ensures.1 in
    rw p.1 (cut_first _ _ (keyword_text c.args.edit.now) (object_text c.args.edit.now) c.in_err-write_keyword.ensures.bytes)

pub returns-clause-bytes : goal.returns-clause-bytes
returns-clause-bytes g c = then_all _ _ _ _ (keyword_text c.args.edit.now) (object_text c.args.edit.now) c.in_ok-write_keyword.ensures.bytes c.write_object.ensures.bytes
