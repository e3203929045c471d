use Rattle.std.proofs.Common.{◌≡◌, ◌++◌, [], ℕ, List, map, sym, ap, subst, ◌∙◌}
use Rattle.std.specs.Prelude.{All}
use Rattle.dl_lit.specs.declared.literal.Literal.{Literal}
use Rattle.dl_sup.specs.declared.link.Link.{Link}
use Rattle.dl_theory.specs.declared.rule.Rule.{Rule}
use Rattle.dl_theory.specs.Lists.{TheoryLists, IsWellFormed, labels, no_lists}
use Rattle.dl_theory.specs.Pairs.{named, IsWithin}
use Rattle.dl_graph.specs.Numbers.{NetLists}
use Rattle.dl_net.specs.Loading.{LoadedLists, IsLoading, theory_in}
use Rattle.dl_net.specs.KeptNumbered.{lists_of}
use Rattle.dl_net.proofs.NumberedLemmas.{labels_from, with_pairs, pairs_theory, pairs_loading}
use Rattle.dl_net.proofs.numbered.NumberedTheory.of.Goals as goal

-- a theory of which all but the pairs is loaded, with its pairs
module _ (a : LoadedLists) (h : IsLoading a) (T : TheoryLists) (most : theory_in a ≡ record T { pairs = [] }) (links : List Link)
    (are : map (named (labels T)) links ≡ T.pairs) where
  same_labels : labels T ≡ a.labels
  same_labels = sym (ap labels most) ∙ labels_from a h

  with_all : record (theory_in a) { pairs = map (named a.labels) links } ≡ T
  with_all = λ i. record {
    facts = ap (λ (U : TheoryLists). U.facts) most i;
    rules = ap (λ (U : TheoryLists). U.rules) most i;
    pairs = (ap (λ (ks : List (List ℕ)). map (named ks) links) (sym same_labels) ∙ are) i;
  }

  all_loading : IsWellFormed T → All (IsWithin (labels T)) links → IsLoading (with_pairs a links)
  all_loading formed within =
      pairs_loading a h links (subst IsWellFormed (sym with_all) formed) (subst (λ (ks : List (List ℕ)). All (IsWithin ks) links) same_labels within)

  all_theory : theory_in (with_pairs a links) ≡ T
  all_theory = pairs_theory a h links ∙ with_all

-- facts and then rules are put into the empty theory
most : (none f r : TheoryLists) (T : TheoryLists) (facts : List Literal) (rules : List Rule) → none ≡ no_lists → f ≡ record none { facts = none.facts ++ facts }
    → r ≡ record f { rules = f.rules ++ rules } → facts ≡ T.facts → rules ≡ T.rules → r ≡ record T { pairs = [] }
most none f r T facts rules empty put_facts put_rules same_facts same_rules =
    put_rules
    ∙ ap (λ (U : TheoryLists). record U { rules = U.rules ++ rules }) (put_facts ∙ ap (λ (U : TheoryLists). record U { facts = U.facts ++ facts }) empty)
    ∙ (λ i. record { facts = same_facts i; rules = same_rules i; pairs = [] })

loaded : (c : goal.After-drop-loaded-inside-2) → theory_in (lists_of c.loaded-2.inside) ≡ record c.args.theory.now { pairs = [] }
loaded c =
    ap (λ (v : NetLists). v.theory) c.loaded-2.view_is
    ∙ most c.make-loaded.result.theory c.put_facts.new.self.theory c.put_rules.new.self.theory c.args.theory.now c.facts.result.now c.rules.result.now
    (ap (λ (v : NetLists). v.theory) c.make-loaded.ensures) c.in_ok-put_facts.ensures c.in_ok-put_rules.ensures c.facts.ensures.value c.rules.ensures.value

pub invariant_of-loaded : goal.invariant_of-loaded
invariant_of-loaded c =
    all_loading (lists_of c.loaded-2.inside) c.loaded-2.invariant c.args.theory.now (loaded c) c.in_ok-loaded-inside.field-0 c.in_ok-loaded-inside.ensures.named
    c.in_ok-loaded-inside.ensures.well_formed c.in_ok-loaded-inside.ensures.within

pub returns : goal.returns
returns c =
    all_theory (lists_of c.loaded-2.inside) c.loaded-2.invariant c.args.theory.now (loaded c) c.in_ok-loaded-inside.field-0 c.in_ok-loaded-inside.ensures.named
