use Rattle.std.proofs.Common.{sym, ◌∙◌}
use Rattle.dl_graph.specs.KeptGraph.{tables_of}
use Rattle.dl_graph.proofs.TableLemmas.{label_within}
use Rattle.dl_graph.proofs.graph.Graph.pair.Goals as goal

pub label-requires : goal.label-requires
label-requires c =
    label_within (tables_of c.self.inside) c.self.invariant c.in-Some.link.upper
    (c.self.invariant.joined c.in-Some.link c.args.number (sym c.at.ensures ∙ c.in-Some.is)).0
