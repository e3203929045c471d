use Rattle.std.proofs.Common.{List, ◌∙◌, subst}
use Rattle.std.specs.Str.{bytes_eq}
use Rattle.dl_lit.specs.Literal.{literal_eq}
use Rattle.dl_theory.specs.declared.rule.Rule.{Rule}
use Rattle.dl_theory.specs.declared.rule.Pair.{Pair}
use Rattle.dl_check.specs.Groups.{IsGrouped}
use Rattle.dl_check.proofs.checker.Checker.make.Goals as goal

pub returns : goal.returns
returns c = record {
  facts = c.in_ok-facts.ensures ∙ c.facts.ensures.value;
  rules = subst (λ (xs : List Rule). IsGrouped literal_eq (λ r. r.head) (λ r. r) c.in_ok-rules.rules.groups.entries xs) c.rules.ensures.value c.in_ok-rules.ensures;
  above = subst (λ (xs : List Pair). IsGrouped bytes_eq (λ p. p.lower) (λ p. p.upper) c.in_ok-above.above.groups.entries xs) c.pairs.ensures.value c.in_ok-above.ensures;
}
