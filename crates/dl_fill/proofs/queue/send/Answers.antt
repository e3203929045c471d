use Rattle.std.proofs.Common.{ℕ, ◌<◌, length, subst}
use Rattle.dl_graph.specs.Counting.{times}
use Rattle.dl_graph.specs.Numbers.{next}
use Rattle.dl_graph.specs.declared.link.Link.{Link}
use Rattle.dl_fill.specs.Wires.{through}
use Rattle.dl_fill.proofs.queue.send.Goals as goal

pub follow-requires-clause-inside : goal.follow-requires-clause-inside
follow-requires-clause-inside c =
    subst (λ (l : Link). (y : ℕ) → 0 < times y (through c.args.width c.args.to (next c.args.net.now l c.args.from)) → y < length c.args.counters.now.need)
    c.in-Same.is c.requires.inside
