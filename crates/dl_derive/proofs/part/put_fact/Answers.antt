use Rattle.std.proofs.Common.{sym, subst, true≢false, ◌∙◌}
use Rattle.std.specs.Prelude.{Contains}
use Rattle.std.proofs.lemmas.Map.Made.{is_member-Decides}
use Rattle.dl_lit.specs.declared.literal.Literal.{Literal}
use Rattle.dl_lit.specs.Order.{literal_eq-Decides}
use Rattle.dl_graph.specs.Numbers.{literal_at}
use Rattle.dl_derive.specs.Part.{Adds}
use Rattle.dl_derive.proofs.Fitting.{adds_if, adds_none, on_ok}
use Rattle.dl_derive.proofs.part.put_fact.Goals as goal

pub add_fact-requires-clause-there : goal.add_fact-requires-clause-there
add_fact-requires-clause-there c =
    let q : Literal = literal_at c.args.net.now c.args.number in
    subst (Contains c.args.net.now.theory.facts) (sym (c.in_ok-fact.ensures ∙ c.literal.ensures))
    ((is_member-Decides literal_eq-Decides c.args.net.now.theory.facts q).0 (sym c.is_fact.ensures ∙ c.if-is_fact.true))

pub returns-then-is_fact-clause-facts : goal.returns-then-is_fact-clause-facts
returns-then-is_fact-clause-facts c =
    let q : Literal = literal_at c.args.net.now c.args.number in
    on_ok c.add_fact.result
    (λ adds. adds_if (Contains c.args.net.now.theory.facts) q c.args.theory.now.facts c.add_fact.new.theory.facts
    ((is_member-Decides literal_eq-Decides c.args.net.now.theory.facts q).0 (sym c.is_fact.ensures ∙ c.if-is_fact.true))
    (subst (λ (x : Literal). Adds x c.args.theory.now.facts c.add_fact.new.theory.facts) (c.in_ok-fact.ensures ∙ c.literal.ensures) adds))
    c.add_fact.ensures.facts

pub returns-clause-facts : goal.returns-clause-facts
returns-clause-facts c =
    let q : Literal = literal_at c.args.net.now c.args.number in
    adds_none (Contains c.args.net.now.theory.facts) q c.args.theory.now.facts
    (λ m. true≢false (sym (c.is_fact.ensures ∙ (is_member-Decides literal_eq-Decides c.args.net.now.theory.facts q).1 m) ∙ c.if-is_fact.false))
