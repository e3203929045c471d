use Rattle.std.proofs.Common.{◌≡◌, ℕ, List, [], ◌∷◌, sym, ap, subst, ◌∙◌}
use Rattle.std.specs.Prelude.{option_to_list}
use Rattle.dl_rows.specs.Rows.{row}
use Rattle.dl_graph.specs.Numbers.{NetLists, of_rule, head_row}
use Rattle.dl_graph.specs.KeptGraph.{graph_of}
use Rattle.dl_graph.proofs.ReadLemmas.{head_read}
use Rattle.dl_graph.proofs.FindLemmas.{opposed_none, opposed_some}
use Rattle.dl_graph.proofs.graph.Graph.opposed.Goals as goal

pub other-requires : goal.other-requires
other-requires c =
    let is : c.in-Some.head ∷ [] ≡ row (of_rule (head_row c.args.self.now)) c.args.self.now.rules c.args.rule =
    subst (λ (v : NetLists). c.in-Some.head ∷ [] ≡ row (of_rule (head_row v)) v.rules c.args.rule) c.self.view_is
    (ap option_to_list (sym c.in-Some.is)
    ∙ c.headed.ensures
    ∙ head_read (graph_of c.self.inside) c.self.inside.index.now c.self.invariant.tables.index c.args.rule) in
    (opposed_some c.args.self.now c.names-count.ensures.numbered c.args.rule c.in-Some.head is).0

pub returns-in-None : goal.returns-in-None
returns-in-None c =
    opposed_none c.args.self.now c.names-count.ensures.numbered c.args.rule
    (subst (λ (v : NetLists). ◌≡◌ {A = List ℕ} [] (row (of_rule (head_row v)) v.rules c.args.rule)) c.self.view_is
    (ap option_to_list (sym c.in-None.is)
    ∙ c.headed.ensures
    ∙ head_read (graph_of c.self.inside) c.self.inside.index.now c.self.invariant.tables.index c.args.rule))

pub returns-in-Some : goal.returns-in-Some
returns-in-Some c =
    let is : c.in-Some.head ∷ [] ≡ row (of_rule (head_row c.args.self.now)) c.args.self.now.rules c.args.rule =
    subst (λ (v : NetLists). c.in-Some.head ∷ [] ≡ row (of_rule (head_row v)) v.rules c.args.rule) c.self.view_is
    (ap option_to_list (sym c.in-Some.is)
    ∙ c.headed.ensures
    ∙ head_read (graph_of c.self.inside) c.self.inside.index.now c.self.invariant.tables.index c.args.rule) in
    ap (λ n. n ∷ []) c.other.ensures.other
    ∙ (opposed_some c.args.self.now c.names-count.ensures.numbered c.args.rule c.in-Some.head is).1
