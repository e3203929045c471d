use Rattle.std.proofs.Common.{Option, None, List, sym, subst}
use Rattle.dl_sup.specs.declared.link.Link.{Link}
use Rattle.dl_net.specs.Kept.{HasOrder}
use Rattle.dl_net.proofs.PairTables.{order_forgotten}
use Rattle.dl_net.proofs.tables.Tables.forget_link.Goals as goal

pub returns-clause-order : goal.returns-clause-order
returns-clause-order c =
    subst (λ (o : Option (List Link)). HasOrder o c.args.self.now.pairs.items None) (sym c.drop_from.ensures)
    (order_forgotten c.args.self.now.order c.args.self.now.pairs.items c.args.link c.requires)
