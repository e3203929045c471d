use Rattle.dl_conclusions.proofs.Concluding.{are_conclusions, order_read}
use Rattle.dl_conclusions.proofs.concluded.Concluded.make.Goals as goal

pub returns : goal.returns
returns c =
    let order = c.in_ok-order.order.items in
    are_conclusions c.args.net c.args.marks c.args.family c.requires.room c.requires.right order
    ((order_read c.args.net c.graph.result order c.graph.ensures).0 c.in_ok-order.ensures)

pub invariant_of-result : goal.invariant_of-result
invariant_of-result c = record {
  order = (order_read c.args.net c.graph.result c.in_ok-order.order.items c.graph.ensures).0 c.in_ok-order.ensures;
  room = c.requires.room;
  right = c.requires.right;
}
