use Rattle.std.proofs.Common.{◌≡◌, ◌<◌, ℕ, List, length, sym, ap, subst, ◌∙◌, arith}
use Rattle.dl_lit.specs.declared.literal.Literal.{Literal}
use Rattle.dl_names.specs.Paired.{flip, number_in}
use Rattle.dl_graph.specs.Numbers.{NetLists, no_literal, number_of_other}
use Rattle.dl_names.proofs.NameLemmas.{paired_at, number_at}
use Rattle.dl_graph.proofs.graph.Graph.other.Goals as goal

pub returns-clause-other : goal.returns-clause-other
returns-clause-other c =
    let ls : List Literal = c.self.inside.names.now.literals in
    let n : ℕ = c.args.number in
    let lt : n < length ls = subst (λ (v : NetLists). n < length v.names) (sym c.self.view_is) c.requires in
    let at = paired_at ls c.self.invariant.paired n no_literal lt in
    subst (λ (v : NetLists). c.other.result ≡ number_of_other v n) c.self.view_is
    (c.other.ensures ∙ sym (number_at ls (flip n) no_literal c.len-count.ensures.distinct at.0) ∙ ap (number_in ls) at.1)

pub returns-clause-within : goal.returns-clause-within
returns-clause-within c =
    let ls : List Literal = c.self.inside.names.now.literals in
    let n : ℕ = c.args.number in
    let lt : n < length ls = subst (λ (v : NetLists). n < length v.names) (sym c.self.view_is) c.requires in
    let at = paired_at ls c.self.invariant.paired n no_literal lt in
    subst (λ (v : NetLists). c.other.result < length v.names) c.self.view_is (omega (arith, c.other.ensures, at.0))
