use Rattle.std.proofs.Common.{◌≡◌, ℕ, List, ap, subst, ◌∙◌}
use Rattle.std.specs.Prelude.{slice_get}
use Rattle.dl_rows.specs.Rows.{places}
use Rattle.dl_graph.specs.Numbers.{NetLists, of_rule, body_row}
use Rattle.dl_graph.specs.KeptGraph.{graph_of}
use Rattle.dl_graph.proofs.ReadLemmas.{uses_read}
use Rattle.dl_graph.proofs.graph.Graph.uses.Goals as goal

pub returns : goal.returns
returns c =
    subst (λ (v : NetLists). c.uses_at.result ≡ slice_get (places (of_rule (body_row v)) v.rules c.args.number) c.args.at) c.self.view_is
    (c.uses_at.ensures ∙ ap (λ (xs : List ℕ). slice_get xs c.args.at) (uses_read (graph_of c.self.inside) c.self.inside.index.now c.self.invariant.tables.index c.args.number))
