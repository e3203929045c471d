use Rattle.std.proofs.Common.{◌≡◌, ℕ, List, None, Some, get_or, sym, ap, subst, ◌∙◌}
use Rattle.dl_rules.specs.Lines.{line_at, IsThere}
use Rattle.dl_graph.specs.Numbers.{NetLists}
use Rattle.dl_graph.specs.Tables.{rule_from}
use Rattle.dl_graph.specs.KeptGraph.{tables_of}
use Rattle.dl_graph.proofs.TableLemmas.{line_named, rule_here}
use Rattle.dl_graph.proofs.graph.Graph.rule.Goals as goal

pub invariant_of-result : goal.invariant_of-result
invariant_of-result c =
    let there : IsThere c.self.inside.index.now.lines c.args.number = sym c.is_there.ensures ∙ c.if-not-is_there.false in
    record { there = there; within = line_named (tables_of c.self.inside) c.self.invariant c.args.number there }

pub returns : goal.returns
returns c =
    let lines = c.self.inside.index.now.lines in
    let there : IsThere lines c.args.number = sym c.is_there.ensures ∙ c.if-not-is_there.false in
    subst (λ (v : NetLists). Some (rule_from c.self.inside.names.now.literals c.label.result.now (line_at lines c.args.number)) ≡ get_or v.rules c.args.number None) c.self.view_is
    (ap (λ (l : List ℕ). Some (rule_from c.self.inside.names.now.literals l (line_at lines c.args.number))) c.label.ensures
    ∙ sym (rule_here (tables_of c.self.inside) c.self.invariant c.args.number there))
