use Rattle.std.proofs.Common.{sym, ◌∙◌}
use Rattle.dl_read.proofs.TaggedReading.{bare_ok, bare_err}
use Rattle.dl_read.proofs.tagged.read_bare_tagged.Goals as goal

pub returns-else-has_comment : goal.returns-else-has_comment
returns-else-has_comment c = bare_ok c.args.line.now c.in-Ok.tagged c.in-Ok.ensures (sym c.has_comment.ensures ∙ c.if-has_comment.false)

pub returns-in-Err : goal.returns-in-Err
returns-in-Err c = bare_err c.args.line.now c.in-Err.stop c.in-Err.ensures
