use Rattle.std.proofs.Common.{◌≡◌, ℕ, ◌<◌, ◌+◌, ◌++◌, ◌∷◌, List, [], true, arith, get_or, set, sym, ap, subst, length}
use Rattle.dl_graph.specs.Counting.{times}
use Rattle.dl_fill.specs.Cells.{CellLists}
use Rattle.dl_fill.specs.Counters.{CounterLists, IsKept, waiting}
use Rattle.dl_fill.proofs.Kept.{set_kept, fired_kept}
use Rattle.dl_fill.proofs.counters.Counters.give.Goals as goal

pub invariant_of-self : goal.invariant_of-self
invariant_of-self c =
    let fired = c.self.inside.cells.flags in
    let need = c.self.inside.cells.numbers in
    let queue = c.self.inside.queue.items in
    let view = sym c.self.view_is in
    let lt = subst (λ (v : CounterLists). c.args.node < length v.need) view c.requires.node in
    let same = set_kept c.self.inside.cells.numbers c.args.node 0 (subst (λ (v : CounterLists). get_or v.need c.args.node 0 ≡ 0) view c.requires.idle) in
    let fresh = subst (λ (v : CounterLists). times c.args.node v.queue ≡ 0) view c.requires.fresh in
    let room = subst (λ (v : CounterLists). length v.queue + waiting v.need < length v.need) view c.requires.room in
    subst (λ (v : CellLists). IsKept v.flags v.numbers c.push_reserved.new.self.items c.push_reserved.new.self.cap) (sym c.fire.ensures)
    (subst (λ (xs : List ℕ). IsKept (set fired c.args.node true) (set need c.args.node 0) xs c.push_reserved.new.self.cap) (sym c.push_reserved.ensures.items)
    (subst (λ (n : ℕ). IsKept (set fired c.args.node true) (set need c.args.node 0) (queue ++ c.args.node ∷ []) n) (sym c.push_reserved.ensures.capacity)
    (fired_kept fired need queue c.self.inside.queue.cap c.self.invariant c.args.node lt fresh (omega (arith, room, ap waiting same)))))
