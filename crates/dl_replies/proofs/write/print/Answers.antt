use Rattle.std.proofs.lemmas.Result.{err_from_is_err_and}
use Rattle.dl_replies.proofs.write.print.Goals as goal

pub returns-in_err-written-clause-handed : goal.returns-in_err-written-clause-handed
returns-in_err-written-clause-handed g c =
    let p = err_from_is_err_and c.from_residual.result c.from_residual.ensures.1 in
    rw p.1 c.hand_on-handed.ensures.front
