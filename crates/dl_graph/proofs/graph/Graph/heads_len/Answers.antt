use Rattle.std.proofs.Common.{◌≡◌, length, ap, subst, ◌∙◌, arith}
use Rattle.dl_rows.specs.Rows.{places}
use Rattle.dl_graph.specs.Numbers.{NetLists, of_rule, head_row}
use Rattle.dl_graph.specs.KeptGraph.{graph_of}
use Rattle.dl_graph.proofs.ReadLemmas.{heads_read, heads_few}
use Rattle.dl_graph.proofs.graph.Graph.heads_len.Goals as goal

pub returns-clause-value : goal.returns-clause-value
returns-clause-value c =
    subst (λ (v : NetLists). c.heads_len.result ≡ length (places (of_rule (head_row v)) v.rules c.args.number)) c.self.view_is
    (c.heads_len.ensures.value
    ∙ ap length (heads_read (graph_of c.self.inside) c.self.inside.index.now c.self.invariant.tables.index c.args.number))

pub returns-clause-few : goal.returns-clause-few
returns-clause-few c =
    omega (
      arith,
      c.heads_len.ensures.value,
      ap length (heads_read (graph_of c.self.inside) c.self.inside.index.now c.self.invariant.tables.index c.args.number),
      heads_few (graph_of c.self.inside) c.self.invariant.formed c.self.invariant.numbered c.args.number,
    )
