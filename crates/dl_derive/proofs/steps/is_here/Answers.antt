use Rattle.std.proofs.Common.{arith, sym}
use Rattle.dl_derive.proofs.Certified.{not_inside}
use Rattle.dl_derive.proofs.steps.is_here.Goals as goal

pub returns-else-place-names-clause-here : goal.returns-else-place-names-clause-here
returns-else-place-names-clause-here c =
    sym (not_inside c.args.region.now c.len-len.ensures.region c.args.place (omega (arith, c.if-place-names.false, c.names.ensures.len, c.requires)))
