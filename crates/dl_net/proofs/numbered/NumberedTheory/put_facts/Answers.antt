use Rattle.std.proofs.Common.{◌≡◌, ◌+◌, ◌++◌, ◌∷◌, [], List, take, sym, ap, ◌∙◌}
use Rattle.std.proofs.lemmas.List.{append-nil, append_assoc, take_more, take_all}
use Rattle.dl_lit.specs.declared.literal.Literal.{Literal}
use Rattle.dl_theory.specs.declared.edit.Edit.TheVariants.{AddFact}
use Rattle.dl_theory.specs.Lists.{TheoryLists}
use Rattle.dl_net.proofs.NumberedLemmas.{edited}
use Rattle.dl_net.proofs.numbered.NumberedTheory.put_facts.Goals as goal

abbrev with_facts : TheoryLists → List Literal → TheoryLists
with_facts U more = record U { facts = U.facts ++ more }

pub loop-fact-init : goal.loop-fact-init
loop-fact-init c =
    let U : TheoryLists = c.args.self.now.theory in
    λ i. record U { facts = sym (append-nil U.facts) i }

pub loop-fact-preserved : goal.loop-fact-preserved
loop-fact-preserved c =
    let U : TheoryLists = c.args.self.now.theory in
    let xs : List Literal = c.args.facts.now in
    let x : Literal = c.fact-item.result in
    let more : take (c.loop-fact.fact-index + 1) xs ≡ take c.loop-fact.fact-index xs ++ x ∷ [] =
    take_more xs c.loop-fact.fact-index x c.loop-fact-test.true ∙ ap (λ (y : Literal). take c.loop-fact.fact-index xs ++ y ∷ []) (sym c.fact-item.is) in
    edited c.loop-fact.self.theory c.put_fact.new.self.theory (AddFact x) c.put_fact.result (sym c.is_err.ensures.value ∙ c.if-is_err.false) c.put_fact.ensures
    ∙ ap (λ (V : TheoryLists). with_facts V (x ∷ [])) c.loop-fact.invariant
    ∙ (λ i. record U { facts = (append_assoc U.facts (take c.loop-fact.fact-index xs) (x ∷ []) ∙ ap (λ (ys : List Literal). U.facts ++ ys) (sym more)) i })

pub returns : goal.returns
returns c =
    let U : TheoryLists = c.args.self.now.theory in
    c.loop-fact.invariant ∙ ap (with_facts U) (take_all c.loop-fact.fact-index c.args.facts.now c.loop-fact-test.false)
