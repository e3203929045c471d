use Rattle.std.proofs.Common.{◌≡◌, cond, [], ◌∷◌, ◌++◌, subst}
use Rattle.std.proofs.lemmas.Result.{on_ok_weaker}
use Rattle.dl_lit.specs.declared.literal.Literal.{Literal}
use Rattle.dl_lit.specs.Literal.{literal_eq}
use Rattle.dl_lit.specs.Order.{literal_eq-Decides}
use Rattle.dl_theory.specs.declared.rule.Rule.{Rule}
use Rattle.dl_check.specs.Groups.{group}
use Rattle.dl_check.proofs.Grouped.{grouped_push}
use Rattle.dl_check.proofs.checker.put_rule.Goals as goal

pub returns : goal.returns
returns c =
    let old = c.args.groups.now.groups.entries in
    let new = c.push.new.self.groups.entries in
    let r = c.args.rule.now in
    let head : c.in_ok-head.head ≡ r.head = c.in_ok-head.ensures in
    let rule : c.in_ok-copy.copy ≡ r = c.in_ok-copy.ensures in
    on_ok_weaker c.push.result
    (λ step rules h. grouped_push literal_eq (λ x. x.head) (λ x. x) literal_eq-Decides old new rules r h
    (subst (λ (v : Rule). (k : Literal) → group literal_eq new k ≡ cond (literal_eq r.head k) (group literal_eq old r.head ++ v ∷ []) (group literal_eq old k)) rule
    (subst (λ (q : Literal). (k : Literal) → group literal_eq new k ≡ cond (literal_eq q k) (group literal_eq old q ++ c.in_ok-copy.copy ∷ []) (group literal_eq old k))
    head step)))
    c.push.ensures
