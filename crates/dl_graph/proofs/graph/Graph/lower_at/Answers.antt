use Rattle.std.proofs.Common.{◌≡◌, ℕ, List, ap, subst, ◌∙◌}
use Rattle.std.specs.Prelude.{slice_get}
use Rattle.dl_rows.specs.Rows.{row}
use Rattle.dl_graph.specs.Numbers.{NetLists, of_rule, lowers_row}
use Rattle.dl_graph.specs.KeptGraph.{graph_of}
use Rattle.dl_graph.proofs.ReadLemmas.{lowers_read}
use Rattle.dl_graph.proofs.graph.Graph.lower_at.Goals as goal

pub returns : goal.returns
returns c =
    subst (λ (v : NetLists). c.lower_at.result ≡ slice_get (row (of_rule (lowers_row v)) v.rules c.args.rule) c.args.at) c.self.view_is
    (c.lower_at.ensures ∙ ap (λ (xs : List ℕ). slice_get xs c.args.at) (lowers_read (graph_of c.self.inside) c.self.inside.index.now c.self.invariant.tables.index c.args.rule))
