use Rattle.dl_read.proofs.Loading.{waits_more}
use Rattle.dl_read.proofs.loader.Loader.wait.Goals as goal

pub returns-clause-waits : goal.returns-clause-waits
returns-clause-waits g c = λ ps h.
    rw (c.in_ok-push.ensures.items, c.in_ok-push-2.ensures.items) (waits_more ps c.args.self.now.pairs.items c.args.self.now.lines.items c.args.pair c.args.line h)
