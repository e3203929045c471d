use Rattle.std.proofs.Common.{◌≡◌, List, Option, length, ap, subst, arith}
use Rattle.std.proofs.Math.ListN.{length-map}
use Rattle.dl_rules.specs.Lines.{Line}
use Rattle.dl_rows.specs.There.{there}
use Rattle.dl_rows.proofs.There.{there_map}
use Rattle.dl_graph.specs.Numbers.{NetLists}
use Rattle.dl_graph.specs.Named.{line_in}
use Rattle.dl_graph.specs.KeptGraph.{graph_of}
use Rattle.dl_graph.proofs.graph.Graph.rules_len.Goals as goal

pub returns : goal.returns
returns c =
    let N : NetLists = graph_of c.self.inside in
    subst (λ (v : NetLists). c.live.result ≡ length v.theory.rules) c.self.view_is
    (omega (
      arith,
      c.live.ensures,
      ap (λ (xs : List (Option Line)). length (there xs)) c.self.invariant.tables.index.lines,
      ap length (there_map (line_in N.names) N.rules),
      length-map (there N.rules) (line_in N.names),
    ))
