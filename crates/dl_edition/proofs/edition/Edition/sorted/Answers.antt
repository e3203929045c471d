use Rattle.std.proofs.Common.{sym, subst}
use Rattle.dl_graph.specs.Numbers.{NetLists}
use Rattle.dl_conclusions.specs.Orders.{IsOrder}
use Rattle.dl_conclusions.proofs.Concluding.{order_read}
use Rattle.dl_edition.proofs.edition.Edition.sorted.Goals as goal

pub keep-requires : goal.keep-requires
keep-requires c =
    let N = c.self.inside.net in
    subst (λ (M : NetLists). IsOrder M c.in_ok-order.order.items) (sym c.self.invariant.listing)
    ((order_read N c.graph-net.result c.in_ok-order.order.items c.graph-net.ensures).0 c.in_ok-order.ensures)
