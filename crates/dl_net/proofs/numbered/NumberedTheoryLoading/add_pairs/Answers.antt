use Rattle.std.proofs.Common.{map, length, sym, subst, ap, arith, List}
use Rattle.std.proofs.Math.ListN.{length-map}
use Rattle.dl_sup.specs.declared.link.Link.{Link}
use Rattle.dl_theory.specs.Lists.{TheoryLists}
use Rattle.dl_theory.specs.Pairs.{named}
use Rattle.dl_theory.specs.Edits.{IsPairsOutcome}
use Rattle.dl_theory.proofs.Additions.{outcome_keeps}
use Rattle.dl_graph.specs.Numbers.{NetLists}
use Rattle.dl_net.specs.Loading.{LoadedLists, theory_in}
use Rattle.dl_net.specs.KeptNumbered.{lists_of}
use Rattle.dl_net.proofs.NumberedLemmas.{labels_from, pairs_read, pairs_theory, pairs_loading}
use Rattle.dl_net.proofs.numbered.NumberedTheoryLoading.add_pairs.Goals as goal

pub invariant_of-self : goal.invariant_of-self
invariant_of-self c =
    let a : LoadedLists = lists_of c.self.inside in
    let h = c.self.invariant in
    let links : List Link = c.add_labelled.new.self in
    let T : TheoryLists = theory_in a in
    pairs_loading a h links
    (outcome_keeps T (record T { pairs = map (named a.labels) links }) c.args.pairs.now c.add_labelled.result h.formed
    (c.add_labelled.ensures.added T h.formed (labels_from a h) (pairs_read a)))
    c.add_labelled.ensures.within

pub returns : goal.returns
returns c =
    let a : LoadedLists = lists_of c.self.inside in
    let h = c.self.invariant in
    let links : List Link = c.add_labelled.new.self in
    subst (λ (T : TheoryLists). IsPairsOutcome c.args.self.now.theory c.args.pairs.now T c.add_labelled.result) (sym (pairs_theory a h links))
    (subst (λ (v : NetLists). IsPairsOutcome v.theory c.args.pairs.now (record (theory_in a) { pairs = map (named a.labels) links }) c.add_labelled.result)
    c.self.view_is (c.add_labelled.ensures.added (theory_in a) h.formed (labels_from a h) (pairs_read a)))

pub add_labelled-requires-clause-few : goal.add_labelled-requires-clause-few
add_labelled-requires-clause-few c =
    let a : LoadedLists = lists_of c.self.inside in
    omega (arith, c.self.invariant.formed.few_pairs, ap length (pairs_read a), length-map a.pairs (named a.labels))
