use Rattle.std.proofs.Common.{◌≡◌, ◌+◌, ◌++◌, ◌∷◌, [], List, take, sym, ap, ◌∙◌}
use Rattle.std.proofs.lemmas.List.{append-nil, append_assoc, take_more, take_all}
use Rattle.dl_theory.specs.declared.rule.Rule.{Rule}
use Rattle.dl_theory.specs.declared.edit.Edit.TheVariants.{AddRule}
use Rattle.dl_theory.specs.Lists.{TheoryLists}
use Rattle.dl_net.proofs.NumberedLemmas.{edited}
use Rattle.dl_net.proofs.numbered.NumberedTheory.put_rules.Goals as goal

abbrev with_rules : TheoryLists → List Rule → TheoryLists
with_rules U more = record U { rules = U.rules ++ more }

pub loop-rule-init : goal.loop-rule-init
loop-rule-init c =
    let U : TheoryLists = c.args.self.now.theory in
    λ i. record U { rules = sym (append-nil U.rules) i }

pub loop-rule-preserved : goal.loop-rule-preserved
loop-rule-preserved c =
    let U : TheoryLists = c.args.self.now.theory in
    let xs : List Rule = c.args.rules.now in
    let x : Rule = c.rule-item.result in
    let more : take (c.loop-rule.rule-index + 1) xs ≡ take c.loop-rule.rule-index xs ++ x ∷ [] =
    take_more xs c.loop-rule.rule-index x c.loop-rule-test.true ∙ ap (λ (y : Rule). take c.loop-rule.rule-index xs ++ y ∷ []) (sym c.rule-item.is) in
    edited c.loop-rule.self.theory c.put_rule.new.self.theory (AddRule x) c.put_rule.result (sym c.is_err.ensures.value ∙ c.if-is_err.false) c.put_rule.ensures
    ∙ ap (λ (V : TheoryLists). with_rules V (x ∷ [])) c.loop-rule.invariant
    ∙ (λ i. record U { rules = (append_assoc U.rules (take c.loop-rule.rule-index xs) (x ∷ []) ∙ ap (λ (ys : List Rule). U.rules ++ ys) (sym more)) i })

pub returns : goal.returns
returns c =
    let U : TheoryLists = c.args.self.now.theory in
    c.loop-rule.invariant ∙ ap (with_rules U) (take_all c.loop-rule.rule-index c.args.rules.now c.loop-rule-test.false)
