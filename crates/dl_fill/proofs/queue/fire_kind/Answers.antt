use Rattle.std.proofs.Common.{ℕ, List, ap, subst, ◌∙◌, ◌<◌}
use Rattle.std.specs.List.{fold}
use Rattle.dl_graph.specs.Counting.{times}
use Rattle.dl_fill.specs.Counters.{hit}
use Rattle.dl_fill.proofs.Spanning.{edges_spanned}
use Rattle.dl_fill.proofs.queue.fire_kind.Goals as goal

pub fire-requires-clause-inside : goal.fire-requires-clause-inside
fire-requires-clause-inside c = λ y h.
    c.requires.inside y
    (subst (λ (ys : List ℕ). 0 < times y ys)
    (edges_spanned c.args.net.now c.args.width c.args.node c.part-part.result.now c.args.wires.now (c.part-part.ensures.same (λ w. w.from) c.requires.spans)) h)

pub returns-clause-made : goal.returns-clause-made
returns-clause-made c =
    c.fire.ensures.made
    ∙ ap (fold hit (fold hit c.args.counters.now c.args.hits.now.items))
    (edges_spanned c.args.net.now c.args.width c.args.node c.part-part.result.now c.args.wires.now (c.part-part.ensures.same (λ w. w.from) c.requires.spans))
