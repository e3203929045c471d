use Rattle.std.proofs.Common.{sym}
use Rattle.std.proofs.lemmas.Bool.Decides.{Decides-at}
use Rattle.dl_lit.specs.Literal.{tagged}
use Rattle.dl_lit.specs.Order.{tagged_eq}
use Rattle.dl_check.proofs.Accepting.{last_decides}
use Rattle.dl_check.proofs.answer.ends_with.Goals as goal

pub returns-in-Some : goal.returns-in-Some
returns-in-Some c =
    let x = tagged c.args.plus c.args.family c.args.literal.now in
    Decides-at c.is_tagged.result (tagged_eq x c.in-Some.x.now) c.is_tagged.ensures (last_decides c.args.list.now x c.in-Some.x.now (sym c.in-Some.ensures.value))
