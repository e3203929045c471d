use Rattle.std.proofs.Common.{◌≡◌, sym, ◌∙◌}
use Rattle.dl_sup.specs.declared.stop.LoadStop.TheVariants.{There, Cycle, Memory}
use Rattle.dl_rows.specs.There.{there}
use Rattle.dl_net.proofs.OrderLemmas.{only_memory}
use Rattle.dl_net.proofs.pair_edits.order_of.Goals as goal

pub unreachable-requires : goal.unreachable-requires
unreachable-requires c =
    let never : There c.in-Err-There.field-0-0 ≡ Memory =
    sym c.in-Err-There.field-0-is
    ∙ only_memory c.make-order.result c.as_slice.result.now c.add_all.new.self (there c.args.pairs.now.items) c.in-Err-There.field-0 c.make-order.ensures
    (c.as_slice.ensures.value ∙ c.in_ok-links.ensures) c.requires c.in-Err-There.ensures.stopped in
    cc

pub unreachable-requires-in-Err-Cycle : goal.unreachable-requires-in-Err-Cycle
unreachable-requires-in-Err-Cycle c =
    let never : Cycle c.in-Err-Cycle.field-0-0 c.in-Err-Cycle.field-0-1 ≡ Memory =
    sym c.in-Err-Cycle.field-0-is
    ∙ only_memory c.make-order.result c.as_slice.result.now c.add_all.new.self (there c.args.pairs.now.items) c.in-Err-Cycle.field-0 c.make-order.ensures
    (c.as_slice.ensures.value ∙ c.in_ok-links.ensures) c.requires c.in-Err-Cycle.ensures.stopped in
    cc
