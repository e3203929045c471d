use Rattle.std.proofs.Common.{◌≡◌, ◌⊎◌, ◌<◌, ◌+◌, length, sym, subst}
use Rattle.dl_graph.specs.Counting.{times}
use Rattle.dl_fill.specs.Cells.{CellLists}
use Rattle.dl_fill.specs.Counters.{CounterLists, IsKept, waiting}
use Rattle.dl_fill.proofs.Kept.{waits_kept}
use Rattle.dl_fill.proofs.counters.Counters.wait.Goals as goal

pub invariant_of-self : goal.invariant_of-self
invariant_of-self c =
    let view = sym c.self.view_is in
    let lt = subst (λ (v : CounterLists). c.args.node < length v.need) view c.requires.node in
    let fresh = subst (λ (v : CounterLists). (c.args.hits ≡ 0) ⊎ (times c.args.node v.queue ≡ 0)) view c.requires.fresh in
    let room = subst (λ (v : CounterLists). (c.args.hits ≡ 0) ⊎ (length v.queue + waiting v.need < length v.need)) view c.requires.room in
    subst (λ (v : CellLists). IsKept v.flags v.numbers c.self.inside.queue.items c.self.inside.queue.cap) (sym c.put.ensures)
    (waits_kept c.self.inside.cells.flags c.self.inside.cells.numbers c.self.inside.queue.items c.self.inside.queue.cap c.self.invariant c.args.node lt c.args.hits fresh room)
