use Rattle.std.proofs.Common.{◌≡◌, ℕ, List, ap, subst, ◌∙◌}
use Rattle.std.specs.Prelude.{slice_get}
use Rattle.dl_rows.specs.Rows.{places}
use Rattle.dl_graph.specs.Numbers.{NetLists, of_rule, head_row}
use Rattle.dl_graph.specs.KeptGraph.{graph_of}
use Rattle.dl_graph.proofs.ReadLemmas.{heads_read}
use Rattle.dl_graph.proofs.graph.Graph.heads.Goals as goal

pub returns : goal.returns
returns c =
    subst (λ (v : NetLists). c.heads_at.result ≡ slice_get (places (of_rule (head_row v)) v.rules c.args.number) c.args.at) c.self.view_is
    (c.heads_at.ensures ∙ ap (λ (xs : List ℕ). slice_get xs c.args.at) (heads_read (graph_of c.self.inside) c.self.inside.index.now c.self.invariant.tables.index c.args.number))
