use Rattle.std.proofs.Common.{refl}
use Rattle.std.specs.Prelude.{Ok}
use Rattle.dl_replies.proofs.Judging.{read_once}
use Rattle.dl_replies.proofs.checked.check.Goals as goal

pub returns-in_ok-checked-in-Ok : goal.returns-in_ok-checked-in-Ok
returns-in_ok-checked-in-Ok c =
    read_once c.args.theory.now c.args.bytes.now (Ok c.in-Ok.certificate) c.in-Ok.ensures.reads c.in-Ok.ensures.stops c.in-Ok.certificate refl
    c.in-Ok.ensures.certificate c.in_ok-checked-in-Ok.checked c.in_ok-checked-in-Ok.ensures
