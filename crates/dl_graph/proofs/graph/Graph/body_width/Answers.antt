use Rattle.std.proofs.Common.{◌≡◌, ℕ, List, length, ap, subst, ◌∙◌}
use Rattle.dl_rows.specs.Rows.{row}
use Rattle.dl_graph.specs.Numbers.{NetLists, of_rule, body_row}
use Rattle.dl_graph.specs.KeptGraph.{graph_of}
use Rattle.dl_graph.proofs.ReadLemmas.{body_read}
use Rattle.dl_graph.proofs.graph.Graph.body_width.Goals as goal

pub returns-clause-width : goal.returns-clause-width
returns-clause-width c =
    subst (λ (v : NetLists). c.width.result ≡ length (row (of_rule (body_row v)) v.rules c.args.rule)) c.self.view_is
    (c.width.ensures.width ∙ ap (λ (xs : List ℕ). length xs) (body_read (graph_of c.self.inside) c.self.inside.index.now c.self.invariant.tables.index c.args.rule))
