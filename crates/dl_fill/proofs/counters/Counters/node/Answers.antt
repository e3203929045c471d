use Rattle.std.proofs.Common.{◌≡◌, ◌<◌, get_or, length, sym, subst, ap, ◌∙◌, arith}
use Rattle.std.proofs.lemmas.List.{get_or_default}
use Rattle.dl_fill.specs.Counters.{CounterLists}
use Rattle.dl_fill.proofs.Times.{times-get_or}
use Rattle.dl_fill.proofs.Kept.{node_within}
use Rattle.dl_fill.proofs.counters.Counters.node.Goals as goal

pub returns-clause-within : goal.returns-clause-within
returns-clause-within c =
    let queue = c.self.inside.queue.items in
    let lt : c.args.at < length queue = subst (λ (v : CounterLists). c.args.at < length v.queue) (sym c.self.view_is) c.requires in
    let here : c.index.result.now ≡ get_or queue c.args.at 0 = c.index.ensures ∙ get_or_default queue c.args.at c.index.result.now 0 lt in
    let within = node_within c.self.inside.cells.flags c.self.inside.cells.numbers queue c.self.inside.queue.cap c.self.invariant (get_or queue c.args.at 0) (times-get_or queue c.args.at 0 lt) in
    omega (arith, within, here, ap (λ (v : CounterLists). length v.need) c.self.view_is)
