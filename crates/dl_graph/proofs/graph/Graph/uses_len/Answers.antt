use Rattle.std.proofs.Common.{◌≡◌, ℕ, List, length, ap, subst, ◌∙◌}
use Rattle.dl_rows.specs.Rows.{places}
use Rattle.dl_graph.specs.Numbers.{NetLists, of_rule, body_row}
use Rattle.dl_graph.specs.KeptGraph.{graph_of}
use Rattle.dl_graph.proofs.ReadLemmas.{uses_read}
use Rattle.dl_graph.proofs.graph.Graph.uses_len.Goals as goal

pub returns : goal.returns
returns c =
    subst (λ (v : NetLists). c.uses_len.result ≡ length (places (of_rule (body_row v)) v.rules c.args.number)) c.self.view_is
    (c.uses_len.ensures ∙ ap (λ (xs : List ℕ). length xs) (uses_read (graph_of c.self.inside) c.self.inside.index.now c.self.invariant.tables.index c.args.number))
