use Rattle.std.proofs.Common.{◌≡◌, sym, subst, ◌∙◌}
use Rattle.dl_graph.specs.Numbers.{NetLists, HasRule, rule_at}
use Rattle.dl_graph.specs.KeptGraph.{tables_of}
use Rattle.dl_graph.proofs.TableLemmas.{label_here}
use Rattle.dl_graph.proofs.graph.Graph.label.Goals as goal

pub returns : goal.returns
returns c =
    subst (λ (v : NetLists). c.label.result.now ≡ (rule_at v c.args.rule).label) c.self.view_is
    (c.label.ensures
    ∙ sym (label_here (tables_of c.self.inside) c.self.invariant c.args.rule (subst (λ (v : NetLists). HasRule v c.args.rule) (sym c.self.view_is) c.requires)))
