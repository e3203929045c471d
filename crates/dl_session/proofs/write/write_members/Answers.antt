use Rattle.std.proofs.lemmas.Result.{err_from_is_err_and}
use Rattle.std.proofs.Common.{arith}
use Rattle.dl_print.specs.Text.{line, tagged_text}
use Rattle.dl_print.proofs.Writes.{cut_line}
use Rattle.dl_session.proofs.write.write_members.Goals as goal

pub returns-in_err-write_member-clause-bytes : goal.returns-in_err-write_member-clause-bytes
returns-in_err-write_member-clause-bytes g c =
    let p = err_from_is_err_and c.from_residual.result c.from_residual.ensures.1 in
    let cut = c.in_err-write_member.ensures.bytes in
    rw p.1 (cut_line (line tagged_text) c.args.list.now c.loop-member.member-index c.member-item.result _ _ _ cut.0 (omega arith) c.member-item.is c.loop-member.invariant.bytes cut.1 cut.2)
