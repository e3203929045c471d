use Rattle.std.proofs.Common.{◌≡◌, refl, sym, ap, subst, ◌∙◌, arith}
use Rattle.dl_lists.specs.Labels.{LabelLists}
use Rattle.dl_lists.specs.Pairs.{PairLists}
use Rattle.dl_graph.specs.Tables.{TableLists, AreTables, net_of}
use Rattle.dl_net.specs.Loading.{LoadedLists, tables_of}
use Rattle.dl_net.specs.KeptNumbered.{lists_of}
use Rattle.dl_net.proofs.LoadLemmas.{have_rules, labels_few, order_distinct, same_net}
use Rattle.dl_net.proofs.tables.Tables.load.Goals as goal

pub index_of-requires-clause-few : goal.index_of-requires-clause-few
index_of-requires-clause-few c =
    let a : LoadedLists = lists_of c.theory.inside in
    omega (arith, c.theory.invariant.as_long, labels_few a c.theory.invariant c.len-count.ensures.distinct c.len-count.ensures.paired)

pub index_of-requires-clause-rules : goal.index_of-requires-clause-rules
index_of-requires-clause-rules c = have_rules (lists_of c.theory.inside) c.theory.invariant c.len-count.ensures.distinct c.len-count.ensures.paired

pub of-requires : goal.of-requires
of-requires c =
    omega (arith, labels_few (lists_of c.theory.inside) c.theory.invariant c.len-count.ensures.distinct c.len-count.ensures.paired)

pub of-requires-2-clause-once : goal.of-requires-2-clause-once
of-requires-2-clause-once c = order_distinct (lists_of c.theory.inside) c.theory.invariant c.len-count.ensures.distinct c.len-count.ensures.paired

-- the tables that are made
made : (c : goal.After-drop-pairs-2) → TableLists
made c = record {
  names = c.theory.inside.names.literals;
  labels = c.of.result.labels;
  facts = c.of-2.result.items;
  pairs = c.in_ok-pairs.pairs.items;
  marks = c.theory.inside.facts.items;
  index = c.in_ok-index.index;
}

-- they hold what was loaded
same : (c : goal.After-drop-pairs-2) → record (tables_of (lists_of c.theory.inside)) { index = c.in_ok-index.index } ≡ made c
unfolding made
same c = λ i. record {
  names = c.theory.inside.names.literals;
  labels = sym (ap (λ (l : LabelLists). l.labels) c.of.ensures) i;
  facts = sym c.of-2.ensures.items i;
  pairs = sym (ap (λ (p : PairLists). p.items) c.in_ok-pairs.ensures) i;
  marks = c.theory.inside.facts.items;
  index = c.in_ok-index.index;
}

pub returns-clause-kept : goal.returns-clause-kept
unfolding made
returns-clause-kept c = record {
  tables = subst AreTables (same c) (c.in_ok-index.ensures.tables (lists_of c.theory.inside) refl refl refl c.theory.invariant);
  order = tt;
}

pub returns-clause-net : goal.returns-clause-net
unfolding made
returns-clause-net c =
    let a : LoadedLists = lists_of c.theory.inside in
    ap net_of (sym (same c))
    ∙ same_net a c.theory.invariant c.len-count.ensures.distinct c.len-count.ensures.paired c.in_ok-index.index c.in_ok-index.ensures.lines
    ∙ c.theory.view_is
