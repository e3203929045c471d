use Rattle.std.proofs.Common.{◌≡◌, ℕ, [], true≢false, sym, subst, ◌∙◌}
use Rattle.std.proofs.lemmas.Option.{get_or_from_slice_get}
use Rattle.dl_theory.specs.Edits.{HasLabel}
use Rattle.dl_graph.specs.Numbers.{NetLists, rule_at}
use Rattle.dl_graph.specs.KeptGraph.{tables_of}
use Rattle.dl_graph.proofs.TableLemmas.{label_none, label_last, label_here, rule_is_there}
use Rattle.dl_graph.proofs.graph.Graph.find_rule.Goals as goal

pub returns-in-None-clause-absent : goal.returns-in-None-clause-absent
returns-in-None-clause-absent c =
    λ m. label_none (tables_of c.self.inside) c.self.invariant c.args.label.now c.in-None.ensures.absent
    (subst (λ (v : NetLists). HasLabel v.theory c.args.label.now) (sym c.self.view_is) m)

pub returns-then-is_there-clause-label : goal.returns-then-is_there-clause-label
returns-then-is_there-clause-label c =
    let n : ℕ = c.in-Some.number in
    subst (λ (v : NetLists). (rule_at v n).label ≡ c.args.label.now) c.self.view_is
    (label_here (tables_of c.self.inside) c.self.invariant n
    (rule_is_there (tables_of c.self.inside) c.self.invariant n (sym c.is_there.ensures ∙ c.if-is_there.true))
    ∙ get_or_from_slice_get c.self.inside.labels.now.labels n c.args.label.now [] c.in-Some.ensures.there.has)

pub returns-else-is_there-clause-absent : goal.returns-else-is_there-clause-absent
returns-else-is_there-clause-absent c =
    λ m. true≢false (sym (label_last (tables_of c.self.inside) c.self.invariant c.args.label.now c.in-Some.number c.in-Some.ensures.there
    (subst (λ (v : NetLists). HasLabel v.theory c.args.label.now) (sym c.self.view_is) m))
    ∙ sym c.is_there.ensures
    ∙ c.if-is_there.false)
