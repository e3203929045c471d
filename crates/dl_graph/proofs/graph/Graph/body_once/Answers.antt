use Rattle.std.proofs.Common.{◌≡◌, ℕ, List, ap, subst, ◌∙◌}
use Rattle.std.specs.Prelude.{slice_get}
use Rattle.dl_rows.specs.Rows.{row}
use Rattle.dl_graph.specs.Numbers.{NetLists, of_rule, body_row}
use Rattle.dl_graph.specs.KeptGraph.{graph_of}
use Rattle.dl_graph.proofs.ReadLemmas.{body_read}
use Rattle.dl_graph.proofs.graph.Graph.body_once.Goals as goal

pub returns : goal.returns
returns c =
    subst (λ (v : NetLists). c.once.result ≡ slice_get (row (of_rule (body_row v)) v.rules c.args.rule) c.args.at) c.self.view_is
    (c.once.ensures ∙ ap (λ (xs : List ℕ). slice_get xs c.args.at) (body_read (graph_of c.self.inside) c.self.inside.index.now c.self.invariant.tables.index c.args.rule))
