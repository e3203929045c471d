use Rattle.std.proofs.Common.{arith, refl, sym, subst, ◌∙◌}
use Rattle.std.specs.Prelude.{Contains}
use Rattle.std.proofs.lemmas.Option.{slice_get_within, get_or_from_slice_get}
use Rattle.std.proofs.lemmas.List.Elements.{All-contains}
use Rattle.dl_theory.specs.declared.rule.Rule.{Rule}
use Rattle.dl_graph.specs.Numbers.{HasRule, rule_at}
use Rattle.dl_graph.proofs.Slots.{rule_in}
use Rattle.dl_derive.specs.Part.{Adds}
use Rattle.dl_derive.proofs.Gaining.{none_past}
use Rattle.dl_derive.proofs.Cutting.{front_none, front_more, front_all, rules_within}
use Rattle.dl_derive.proofs.part.put_rules.Goals as goal

pub loop-at-init : goal.loop-at-init
loop-at-init c = record {
  rules = front_none (rule_at c.args.net.now) c.args.rules.now.members c.args.theory.now.rules c.requires.none;
  facts = refl;
  pairs = refl;
}

pub copied_rule-requires : goal.copied_rule-requires
copied_rule-requires c =
    let e = sym c.at.ensures.member ∙ c.in-Some.is in
    All-contains (HasRule c.args.net.now) c.args.rules.now.members c.in-Some.number c.requires.inside
    (c.loop-at.at, slice_get_within c.args.rules.now.members c.loop-at.at c.in-Some.number e, get_or_from_slice_get c.args.rules.now.members c.loop-at.at c.in-Some.number c.in-Some.number e)

pub add_rule-requires-clause-within : goal.add_rule-requires-clause-within
add_rule-requires-clause-within c =
    rules_within c.args.net.now c.names-names.ensures.numbered c.args.rules.now.members c.loop-at.at c.loop-at.theory.rules c.requires.inside c.loop-at.invariant.rules

pub add_rule-requires-clause-there : goal.add_rule-requires-clause-there
add_rule-requires-clause-there c =
    let e = sym c.at.ensures.member ∙ c.in-Some.is in
    let inside =
    All-contains (HasRule c.args.net.now) c.args.rules.now.members c.in-Some.number c.requires.inside
    (c.loop-at.at, slice_get_within c.args.rules.now.members c.loop-at.at c.in-Some.number e, get_or_from_slice_get c.args.rules.now.members c.loop-at.at c.in-Some.number c.in-Some.number e) in
    subst (Contains c.args.net.now.theory.rules) (sym c.in_ok-rule-in-Some.ensures) (rule_in c.args.net.now c.names-names.ensures.numbered c.in-Some.number inside)

pub loop-at-preserved : goal.loop-at-preserved
loop-at-preserved c = record {
  rules =
      front_more (rule_at c.args.net.now) c.args.rules.now.members c.loop-at.at c.in-Some.number c.loop-at.theory.rules c.add_rule.new.theory.rules
      (sym c.at.ensures.member ∙ c.in-Some.is) c.loop-at.invariant.rules
      (subst (λ (r : Rule). Adds r c.loop-at.theory.rules c.add_rule.new.theory.rules) c.in_ok-rule-in-Some.ensures c.in_ok-add_rule-in-Some.ensures.rules);
  facts = c.in_ok-add_rule-in-Some.ensures.facts ∙ c.loop-at.invariant.facts;
  pairs = c.in_ok-add_rule-in-Some.ensures.pairs ∙ c.loop-at.invariant.pairs;
}

pub returns-clause-rules : goal.returns-clause-rules
returns-clause-rules c =
    front_all (rule_at c.args.net.now) c.args.rules.now.members c.loop-at.at c.loop-at.theory.rules
    (omega (arith, c.len-at-end.ensures.len, c.loop-at-test.false)) c.loop-at.invariant.rules

pub returns-in-None-clause-rules : goal.returns-in-None-clause-rules
returns-in-None-clause-rules c =
    front_all (rule_at c.args.net.now) c.args.rules.now.members c.loop-at.at c.loop-at.theory.rules
    (none_past c.args.rules.now.members c.loop-at.at (sym c.at.ensures.member ∙ c.in-None.is)) c.loop-at.invariant.rules
