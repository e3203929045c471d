use Rattle.std.proofs.Common.{◌∙◌, ap, sym, subst, true≢false}
use Rattle.std.specs.Prelude.{Contains}
use Rattle.dl_lit.specs.declared.literal.Literal.{Literal}
use Rattle.dl_theory.specs.Lists.{attackers}
use Rattle.dl_graph.specs.Numbers.{literal_at, rule_at}
use Rattle.dl_derive.specs.Back.{Gains}
use Rattle.dl_derive.proofs.Gaining.{gains_none, gains_one}
use Rattle.dl_cone.specs.Walked.{IsNumberOf, IsOfRivals}
use Rattle.dl_cone.proofs.Raising.{gains_rivals, head_found}
use Rattle.dl_cone.proofs.seeds.put_heads.Goals as goal

pub returns-then-attacks : goal.returns-then-attacks
returns-then-attacks c =
    let N = c.args.net.now in
    let upper = ap (literal_at c.args.net.now) c.head-head.ensures.value ∙ head_found N c.requires.numbered c.args.upper c.requires.upper in
    let lower = ap (literal_at c.args.net.now) c.head-other.ensures.value ∙ head_found N c.requires.numbered c.args.lower c.requires.lower in
    subst (λ (q : Literal). Gains (IsNumberOf c.args.net.now (IsOfRivals c.args.net.now.theory q (rule_at c.args.net.now c.args.lower).head)) c.args.region.now c.put-then-attacks.new.self)
    upper
    (subst (λ (q : Literal). Gains (IsNumberOf c.args.net.now (IsOfRivals c.args.net.now.theory (literal_at c.args.net.now c.head-head.result) q)) c.args.region.now c.put-then-attacks.new.self)
    lower
    (gains_rivals N c.requires.numbered c.head-head.result c.head-other.result c.args.region.now c.put.new.self c.put-then-attacks.new.self
    c.head-head.ensures.within c.head-other.ensures.within (c.attacks.ensures.0 c.if-attacks.true)
    (gains_one c.args.region.now c.put.new.self c.head-head.result c.put.ensures.bound c.put.ensures.there c.put.ensures.new)
    (gains_one c.put.new.self c.put-then-attacks.new.self c.head-other.result c.put-then-attacks.ensures.bound c.put-then-attacks.ensures.there c.put-then-attacks.ensures.new)))

pub returns-else-attacks : goal.returns-else-attacks
returns-else-attacks c =
    let N = c.args.net.now in
    let upper = ap (literal_at c.args.net.now) c.head-head.ensures.value ∙ head_found N c.requires.numbered c.args.upper c.requires.upper in
    let lower = ap (literal_at c.args.net.now) c.head-other.ensures.value ∙ head_found N c.requires.numbered c.args.lower c.requires.lower in
    let apart : ¬ Contains (attackers c.args.net.now.theory (rule_at c.args.net.now c.args.upper).head) (rule_at c.args.net.now c.args.lower).head =
    subst (λ (q : Literal). ¬ Contains (attackers c.args.net.now.theory q) (rule_at c.args.net.now c.args.lower).head) upper
    (subst (λ (q : Literal). ¬ Contains (attackers c.args.net.now.theory (literal_at c.args.net.now c.head-head.result)) q) lower
    (λ m. true≢false (sym (c.attacks.ensures.1 m) ∙ c.if-attacks.false))) in
    gains_none (IsNumberOf c.args.net.now (IsOfRivals c.args.net.now.theory (rule_at c.args.net.now c.args.upper).head (rule_at c.args.net.now c.args.lower).head))
    c.args.region.now (λ n h. apart h.1.0)
