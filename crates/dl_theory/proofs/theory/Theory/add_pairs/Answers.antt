use Rattle.std.proofs.Common.{◌≡◌, List, ℕ, map, sym, ap, subst, ◌∙◌}
use Rattle.dl_sup.specs.declared.link.Link.{Link}
use Rattle.dl_theory.specs.declared.rule.Pair.{Pair}
use Rattle.dl_theory.specs.Lists.{TheoryLists, labels}
use Rattle.dl_theory.specs.Pairs.{named}
use Rattle.dl_theory.specs.Edits.{IsPairsOutcome}
use Rattle.dl_theory.specs.Kept.{lists_of}
use Rattle.dl_theory.proofs.Additions.{outcome_keeps}
use Rattle.dl_theory.proofs.theory.Theory.add_pairs.Goals as goal

-- what was added to the pairs by places was added to the pairs
added : (c : goal.After-drop-links-2)
    → IsPairsOutcome (lists_of c.self.inside) c.args.pairs.now (record (lists_of c.self.inside) { pairs = c.in_ok-self-inside.field-0 }) c.add_labelled-done.result
added c =
    let T : TheoryLists = lists_of c.self.inside in
    let names : List (List ℕ) = c.labels.result.now.keys in
    let links : List Link = c.in_ok-links.links in
    let before : map (named (labels T)) links ≡ T.pairs =
    subst (λ (U : TheoryLists). map (named (labels U)) links ≡ U.pairs) (sym c.self.view_is) c.in_ok-links.ensures.named in
    let after : map (named names) c.add_labelled-done.new.self ≡ c.in_ok-self-inside.field-0 =
    (λ i. map (named ((c.labels.ensures ∙ sym c.labels-2.ensures) i)) (sym c.as_slice.ensures.value i)) ∙ sym c.in_ok-self-inside.ensures in
    subst (λ (ps : List Pair). IsPairsOutcome T c.args.pairs.now (record T { pairs = ps }) c.add_labelled-done.result) after
    (c.add_labelled-done.ensures.added T c.self.invariant (sym c.labels.ensures)
    (sym before ∙ ap (λ ls. map (named ls) links) (sym c.labels.ensures)))

pub invariant_of-self : goal.invariant_of-self
invariant_of-self c =
    let T : TheoryLists = lists_of c.self.inside in
    outcome_keeps T (record T { pairs = c.in_ok-self-inside.field-0 }) c.args.pairs.now c.add_labelled-done.result c.self.invariant (added c)

pub returns : goal.returns
returns c =
    subst (λ (U : TheoryLists). IsPairsOutcome U c.args.pairs.now (record (lists_of c.self.inside) { pairs = c.in_ok-self-inside.field-0 }) c.add_labelled-done.result)
    c.self.view_is (added c)
