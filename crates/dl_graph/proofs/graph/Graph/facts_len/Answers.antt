use Rattle.std.proofs.Common.{◌≡◌, length, ap, subst, arith}
use Rattle.std.proofs.Math.ListN.{length-map}
use Rattle.dl_rows.specs.There.{there}
use Rattle.dl_rows.proofs.There.{there_map}
use Rattle.dl_graph.specs.Numbers.{NetLists}
use Rattle.dl_graph.specs.Tables.{literal_in}
use Rattle.dl_graph.proofs.graph.Graph.facts_len.Goals as goal

pub returns : goal.returns
returns c =
    subst (λ (v : NetLists). c.live.result ≡ length v.theory.facts) c.self.view_is
    (omega (
      arith,
      c.live.ensures,
      ap length (there_map (literal_in c.self.inside.names.now.literals) c.self.inside.facts.now.items),
      length-map (there c.self.inside.facts.now.items) (literal_in c.self.inside.names.now.literals),
    ))
