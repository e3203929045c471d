use Rattle.std.proofs.Common.{◌≡◌, ◌<◌, length, sym, ap, subst, ◌∙◌, arith}
use Rattle.dl_rules.specs.Lines.{Line}
use Rattle.dl_graph.specs.Numbers.{NetLists, HasRule, rule_at, number}
use Rattle.dl_graph.specs.KeptGraph.{graph_of}
use Rattle.dl_graph.proofs.ReadLemmas.{line_is}
use Rattle.dl_graph.proofs.FindLemmas.{number_finds, head_named}
use Rattle.dl_graph.proofs.graph.Graph.head.Goals as goal

pub returns-clause-within : goal.returns-clause-within
returns-clause-within c =
    let N : NetLists = graph_of c.self.inside in
    let there : HasRule N c.args.rule = subst (λ (v : NetLists). HasRule v c.args.rule) (sym c.self.view_is) c.requires in
    let is : c.head.result ≡ number N (rule_at N c.args.rule).head =
    c.head.ensures ∙ ap (λ (l : Line). l.head) (line_is N c.self.inside.index.now c.self.invariant.tables.index c.args.rule there) in
    let at = number_finds N c.self.invariant.numbered (rule_at N c.args.rule).head (head_named N c.self.invariant.numbered c.args.rule there) in
    subst (λ (v : NetLists). c.head.result < length v.names) c.self.view_is (omega (arith, is, at.0))
