use Rattle.std.proofs.Common.{List, map, ap, sym, subst, ◌∙◌}
use Rattle.std.specs.Prelude.{◌↔◌, Contains}
use Rattle.dl_lit.specs.declared.literal.Literal.{Literal}
use Rattle.dl_theory.specs.declared.rule.Rule.{Rule}
use Rattle.dl_theory.specs.Lists.{TheoryLists}
use Rattle.dl_graph.specs.Numbers.{rule_at}
use Rattle.dl_derive.specs.Part.{IsOf}
use Rattle.dl_derive.proofs.Cutting.{pairs_within, pairs_labelled, is_part}
use Rattle.dl_derive.proofs.part.fill_part.Goals as goal

pub put_facts-requires-clause-none : goal.put_facts-requires-clause-none
put_facts-requires-clause-none c = ap (λ (t : TheoryLists). t.facts) c.requires.empty

pub put_rules-requires-clause-inside : goal.put_rules-requires-clause-inside
put_rules-requires-clause-inside c = c.requires.rules.inside

pub put_rules-requires-clause-none : goal.put_rules-requires-clause-none
put_rules-requires-clause-none c = c.in_ok-put_facts.ensures.rules ∙ ap (λ (t : TheoryLists). t.rules) c.requires.empty

pub add_pairs-requires-clause-within : goal.add_pairs-requires-clause-within
add_pairs-requires-clause-within c =
    pairs_within c.args.net.now c.names-names.ensures.numbered c.args.found.now.members c.requires.closed c.args.rules.now c.requires.rules
    c.args.pairs.now c.requires.pairs

pub add_pairs-requires-clause-labelled : goal.add_pairs-requires-clause-labelled
add_pairs-requires-clause-labelled c =
    pairs_labelled c.args.net.now c.names-names.ensures.numbered c.args.found.now.members c.requires.closed c.args.rules.now c.requires.rules
    c.args.pairs.now c.requires.pairs c.put_rules.new.theory c.in_ok-put_rules.ensures.rules

pub add_pairs-requires-clause-none : goal.add_pairs-requires-clause-none
add_pairs-requires-clause-none c =
    c.in_ok-put_rules.ensures.pairs ∙ c.in_ok-put_facts.ensures.pairs ∙ ap (λ (t : TheoryLists). t.pairs) c.requires.empty

pub returns : goal.returns
returns c =
    is_part c.args.net.now c.names-names.ensures.numbered c.args.found.now.members c.requires.closed c.args.rules.now c.requires.rules
    c.args.pairs.now c.requires.pairs c.add_pairs.new.theory
    (λ r. subst (λ (l : List Rule). Contains l r ↔ Contains (map (rule_at c.args.net.now) c.args.rules.now.members) r) (sym c.in_ok-add_pairs.ensures.rules) (c.in_ok-put_rules.ensures.rules r))
    c.in_ok-add_pairs.ensures.pairs
    (λ q. subst (λ (l : List Literal). Contains l q ↔ (Contains c.args.net.now.theory.facts q × IsOf c.args.net.now c.args.found.now.members q))
    (sym (c.in_ok-add_pairs.ensures.facts ∙ c.in_ok-put_rules.ensures.facts)) (c.in_ok-put_facts.ensures.facts q))
