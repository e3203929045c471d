use Rattle.std.proofs.Common.{[], ◌∷◌}
use Rattle.std.proofs.lemmas.Result.{err_from_is_err_and}
use Rattle.dl_print.specs.Text.{tagged_text}
use Rattle.dl_print.proofs.Writes.{cut_first, then_all}
use Rattle.dl_session.proofs.write.write_member.Goals as goal

pub returns-in_err-write_tagged-clause-bytes : goal.returns-in_err-write_tagged-clause-bytes
returns-in_err-write_tagged-clause-bytes g c =
    let p = err_from_is_err_and c.from_residual.result c.from_residual.ensures.1 in
    rw p.1 (cut_first _ _ (tagged_text c.args.member.now) (10 ∷ []) c.in_err-write_tagged.ensures.bytes)

pub returns-clause-bytes : goal.returns-clause-bytes
returns-clause-bytes g c = then_all _ _ _ _ (tagged_text c.args.member.now) (10 ∷ []) c.in_ok-write_tagged.ensures.bytes c.write_all.ensures.bytes
