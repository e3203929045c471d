use Rattle.std.proofs.lemmas.Result.{err_from_is_err_and}
use Rattle.dl_print.specs.Text.{tag_text, literal_text}
use Rattle.dl_print.proofs.Writes.{cut_first, then_all}
use Rattle.dl_print.proofs.requests.write_tagged.Goals as goal

pub returns-in_err-write_tag-clause-bytes : goal.returns-in_err-write_tag-clause-bytes
returns-in_err-write_tag-clause-bytes g c =
    let p = err_from_is_err_and c.from_residual.result c.from_residual.ensures.1 in
    rw p.1 (cut_first _ _ (tag_text c.args.tagged.now.plus c.args.tagged.now.family) (literal_text c.args.tagged.now.literal) c.in_err-write_tag.ensures.bytes)

pub returns-clause-bytes : goal.returns-clause-bytes
returns-clause-bytes g c = then_all _ _ _ _ (tag_text c.args.tagged.now.plus c.args.tagged.now.family) (literal_text c.args.tagged.now.literal) c.in_ok-write_tag.ensures.bytes c.write_literal.ensures.bytes
