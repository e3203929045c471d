use Rattle.std.proofs.Common.{◌≡◌, subst, ◌∙◌}
use Rattle.std.specs.Prelude.{option_to_list}
use Rattle.dl_rows.specs.Rows.{row}
use Rattle.dl_graph.specs.Numbers.{NetLists, of_rule}
use Rattle.dl_graph.specs.Named.{concluded_row}
use Rattle.dl_graph.specs.KeptGraph.{graph_of}
use Rattle.dl_graph.proofs.ReadLemmas.{concluded_read}
use Rattle.dl_graph.proofs.graph.Graph.concluded.Goals as goal

pub returns : goal.returns
returns c =
    subst (λ (v : NetLists). option_to_list c.concluded.result ≡ row (of_rule (concluded_row v c.args.strict)) v.rules c.args.rule) c.self.view_is
    (c.concluded.ensures ∙ concluded_read (graph_of c.self.inside) c.self.inside.index.now c.self.invariant.tables.index c.args.strict c.args.rule)
