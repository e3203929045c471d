use Rattle.std.proofs.Common.{◌≡◌, true, length, ap, subst, ◌∙◌, arith}
use Rattle.dl_rows.specs.Rows.{row}
use Rattle.dl_graph.specs.Numbers.{NetLists, of_rule, uppers_row}
use Rattle.dl_graph.specs.KeptGraph.{graph_of}
use Rattle.dl_graph.proofs.ReadLemmas.{uppers_read}
use Rattle.dl_graph.proofs.UpperLemmas.{uppers_short}
use Rattle.dl_graph.proofs.graph.Graph.upper_len.Goals as goal

pub returns-clause-value : goal.returns-clause-value
returns-clause-value c =
    subst (λ (v : NetLists). c.upper_len.result ≡ length (row (of_rule (uppers_row v (λ _. true))) v.rules c.args.rule)) c.self.view_is
    (c.upper_len.ensures ∙ ap length (uppers_read (graph_of c.self.inside) c.self.inside.index.now c.self.invariant.tables.index c.args.rule))

pub returns-clause-few : goal.returns-clause-few
returns-clause-few c =
    let N : NetLists = graph_of c.self.inside in
    omega (
      arith,
      c.upper_len.ensures,
      ap length (uppers_read N c.self.inside.index.now c.self.invariant.tables.index c.args.rule),
      uppers_short N c.self.invariant.formed c.self.invariant.numbered (λ _. true) c.args.rule,
    )
