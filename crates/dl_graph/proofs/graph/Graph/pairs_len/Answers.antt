use Rattle.std.proofs.Common.{◌≡◌, length, ap, subst, arith}
use Rattle.std.proofs.Math.ListN.{length-map}
use Rattle.dl_rows.specs.There.{there}
use Rattle.dl_rows.proofs.There.{there_map}
use Rattle.dl_graph.specs.Numbers.{NetLists}
use Rattle.dl_theory.specs.Pairs.{named}
use Rattle.dl_graph.proofs.graph.Graph.pairs_len.Goals as goal

pub returns : goal.returns
returns c =
    subst (λ (v : NetLists). c.live.result ≡ length v.theory.pairs) c.self.view_is
    (omega (
      arith,
      c.live.ensures,
      ap length (there_map (named c.self.inside.labels.now.labels) c.self.inside.pairs.now.items),
      length-map (there c.self.inside.pairs.now.items) (named c.self.inside.labels.now.labels),
    ))
