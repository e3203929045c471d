use Rattle.std.proofs.Common.{length}
use Rattle.std.proofs.lemmas.Result.{err_from_is_err_and}
use Rattle.std.specs.List.{flat_map}
use Rattle.dl_print.specs.Text.{line, tagged_text}
use Rattle.dl_print.proofs.Writes.{cut_first, then_all}
use Rattle.dl_session.specs.Text.{counted_line, verdict_words}
use Rattle.dl_session.proofs.write.write_certified.Goals as goal

pub returns-in_err-write_verdict-clause-bytes : goal.returns-in_err-write_verdict-clause-bytes
returns-in_err-write_verdict-clause-bytes g c =
    let p = err_from_is_err_and c.from_residual.result c.from_residual.ensures.1 in
    rw p.1 (cut_first _ _ (counted_line (verdict_words c.args.verdict) (length c.args.list.now)) (flat_map (line tagged_text) c.args.list.now) c.in_err-write_verdict.ensures.bytes)

pub returns-clause-bytes : goal.returns-clause-bytes
returns-clause-bytes g c = then_all _ _ _ _ (counted_line (verdict_words c.args.verdict) (length c.args.list.now)) (flat_map (line tagged_text) c.args.list.now) c.in_ok-write_verdict.ensures.bytes c.write_members.ensures.bytes
