use Rattle.std.proofs.Common.{◌≡◌, List, subst}
use Rattle.dl_sup.specs.declared.link.Link.{Link}
use Rattle.dl_sup.specs.declared.stop.LoadStop.TheVariants.{Memory}
use Rattle.dl_sup.specs.Adding.{IsLoadStop}
use Rattle.dl_theory.proofs.Extending.{only_memory}
use Rattle.dl_theory.proofs.superiority.order_of.Goals as goal

pub unreachable-requires : goal.unreachable-requires
unreachable-requires c =
    let memory : c.in-Err-There.field-0 ≡ Memory =
    only_memory c.add_all.new.self c.args.links.now c.in-Err-There.field-0 c.requires
    (subst (λ (ls : List Link). IsLoadStop ls c.add_all.new.self c.args.links.now c.in-Err-There.field-0) c.make-order.ensures c.in-Err-There.ensures.stopped) in
    cc (memory, c.in-Err-There.field-0-is)

pub unreachable-requires-in-Err-Cycle : goal.unreachable-requires-in-Err-Cycle
unreachable-requires-in-Err-Cycle c =
    let memory : c.in-Err-Cycle.field-0 ≡ Memory =
    only_memory c.add_all.new.self c.args.links.now c.in-Err-Cycle.field-0 c.requires
    (subst (λ (ls : List Link). IsLoadStop ls c.add_all.new.self c.args.links.now c.in-Err-Cycle.field-0) c.make-order.ensures c.in-Err-Cycle.ensures.stopped) in
    cc (memory, c.in-Err-Cycle.field-0-is)
