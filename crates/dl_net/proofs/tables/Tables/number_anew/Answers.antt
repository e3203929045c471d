use Rattle.std.proofs.Common.{◌≡◌, ◌<◌, ℕ, Option, Some, List, map, refl, sym, ap, subst, ◌∙◌, arith}
use Rattle.std.specs.Prelude.{All}
use Rattle.dl_base.specs.Paths.{IsDistinct}
use Rattle.dl_sup.specs.declared.link.Link.{Link}
use Rattle.dl_theory.specs.Pairs.{named, IsWithin}
use Rattle.dl_rows.specs.There.{there}
use Rattle.dl_rules.specs.Lines.{Line}
use Rattle.dl_lists.specs.Labels.{LabelLists}
use Rattle.dl_lists.specs.Pairs.{PairLists}
use Rattle.dl_graph.specs.Tables.{TableLists, AreTables, net_of, theory_of}
use Rattle.dl_net.specs.Anew.{labels_there}
use Rattle.dl_net.specs.Kept.{lists_of}
use Rattle.dl_net.specs.Loading.{LoadedLists, IsLoading, tables_of}
use Rattle.dl_net.proofs.LoadLemmas.{have_rules, labels_few, order_distinct, same_net}
use Rattle.dl_net.proofs.Renewal.{IsRenewed, theory_labels, loading_renewed, net_renewed}
use Rattle.dl_net.proofs.tables.Tables.number_anew.Goals as goal

pub labels_in_order-requires-clause-distinct : goal.labels_in_order-requires-clause-distinct
labels_in_order-requires-clause-distinct c =
    subst (λ (ks : List (List ℕ)). IsDistinct ks) (theory_labels (lists_of c.args.self.now)) c.requires.kept.tables.formed.labels_distinct

pub pairs_anew-requires-clause-labels : goal.pairs_anew-requires-clause-labels
pairs_anew-requires-clause-labels c = c.in_ok-labels.ensures ∙ sym (theory_labels (lists_of c.args.self.now))

-- what is loaded anew
abbrev again : TableLists → List (List ℕ) → List ℕ → List Link → List (Option Line) → LoadedLists
again t keys order links lines = record { names = t.names; labels = keys; order = order; pairs = links; marks = t.marks; lines = lines }

is_again : (t : TableLists) (keys : List (List ℕ)) (order : List ℕ) (links : List Link) (lines : List (Option Line))
    → keys ≡ labels_there t.labels t.index.lines → order ≡ there t.facts → map (named keys) links ≡ (theory_of t).pairs → All (IsWithin keys) links
    → lines ≡ map Some (there t.index.lines) → IsRenewed t (again t keys order links lines)
is_again t keys order links lines labels facts pairs within rules = record {
  names = refl;
  labels = labels;
  order = facts;
  pairs = pairs;
  within = within;
  marks = refl;
  lines = rules;
}

pub index_of-requires-clause-within : goal.index_of-requires-clause-within
index_of-requires-clause-within c =
    let t : TableLists = lists_of c.args.self.now in
    let a : LoadedLists = again t c.in_ok-labels.labels.keys c.in_ok-order.order.items c.in_ok-links.links c.in_ok-lines.lines.items in
    let r : IsRenewed t a =
    is_again t c.in_ok-labels.labels.keys c.in_ok-order.order.items c.in_ok-links.links c.in_ok-lines.lines.items
    c.in_ok-labels.ensures c.in_ok-order.ensures c.in_ok-links.ensures.named c.in_ok-links.ensures.within c.in_ok-lines.ensures in
    let h : IsLoading a = loading_renewed t c.requires.kept.tables a r in
    h.lines

pub index_of-requires-clause-few : goal.index_of-requires-clause-few
index_of-requires-clause-few c =
    let t : TableLists = lists_of c.args.self.now in
    let a : LoadedLists = again t c.in_ok-labels.labels.keys c.in_ok-order.order.items c.in_ok-links.links c.in_ok-lines.lines.items in
    let r : IsRenewed t a =
    is_again t c.in_ok-labels.labels.keys c.in_ok-order.order.items c.in_ok-links.links c.in_ok-lines.lines.items
    c.in_ok-labels.ensures c.in_ok-order.ensures c.in_ok-links.ensures.named c.in_ok-links.ensures.within c.in_ok-lines.ensures in
    let h : IsLoading a = loading_renewed t c.requires.kept.tables a r in
    omega (arith, h.as_long, labels_few a h c.len-names.ensures.distinct c.len-names.ensures.paired)

pub index_of-requires-clause-rules : goal.index_of-requires-clause-rules
index_of-requires-clause-rules c =
    let t : TableLists = lists_of c.args.self.now in
    let a : LoadedLists = again t c.in_ok-labels.labels.keys c.in_ok-order.order.items c.in_ok-links.links c.in_ok-lines.lines.items in
    let r : IsRenewed t a =
    is_again t c.in_ok-labels.labels.keys c.in_ok-order.order.items c.in_ok-links.links c.in_ok-lines.lines.items
    c.in_ok-labels.ensures c.in_ok-order.ensures c.in_ok-links.ensures.named c.in_ok-links.ensures.within c.in_ok-lines.ensures in
    let h : IsLoading a = loading_renewed t c.requires.kept.tables a r in
    have_rules a h c.len-names.ensures.distinct c.len-names.ensures.paired

pub of-requires : goal.of-requires
of-requires c =
    let t : TableLists = lists_of c.args.self.now in
    let a : LoadedLists = again t c.in_ok-labels.labels.keys c.in_ok-order.order.items c.in_ok-links.links c.in_ok-lines.lines.items in
    let r : IsRenewed t a =
    is_again t c.in_ok-labels.labels.keys c.in_ok-order.order.items c.in_ok-links.links c.in_ok-lines.lines.items
    c.in_ok-labels.ensures c.in_ok-order.ensures c.in_ok-links.ensures.named c.in_ok-links.ensures.within c.in_ok-lines.ensures in
    let h : IsLoading a = loading_renewed t c.requires.kept.tables a r in
    omega (arith, labels_few a h c.len-names.ensures.distinct c.len-names.ensures.paired)

pub of-requires-2-clause-within : goal.of-requires-2-clause-within
of-requires-2-clause-within c =
    let t : TableLists = lists_of c.args.self.now in
    let a : LoadedLists = again t c.in_ok-labels.labels.keys c.in_ok-order.order.items c.in_ok-links.links c.in_ok-lines.lines.items in
    let r : IsRenewed t a =
    is_again t c.in_ok-labels.labels.keys c.in_ok-order.order.items c.in_ok-links.links c.in_ok-lines.lines.items
    c.in_ok-labels.ensures c.in_ok-order.ensures c.in_ok-links.ensures.named c.in_ok-links.ensures.within c.in_ok-lines.ensures in
    let h : IsLoading a = loading_renewed t c.requires.kept.tables a r in
    subst (λ (n : ℕ). All (λ q. q < n) c.in_ok-order.order.items) (sym c.len-names.ensures.len) h.order

pub of-requires-2-clause-once : goal.of-requires-2-clause-once
of-requires-2-clause-once c =
    let t : TableLists = lists_of c.args.self.now in
    let a : LoadedLists = again t c.in_ok-labels.labels.keys c.in_ok-order.order.items c.in_ok-links.links c.in_ok-lines.lines.items in
    let r : IsRenewed t a =
    is_again t c.in_ok-labels.labels.keys c.in_ok-order.order.items c.in_ok-links.links c.in_ok-lines.lines.items
    c.in_ok-labels.ensures c.in_ok-order.ensures c.in_ok-links.ensures.named c.in_ok-links.ensures.within c.in_ok-lines.ensures in
    let h : IsLoading a = loading_renewed t c.requires.kept.tables a r in
    order_distinct a h c.len-names.ensures.distinct c.len-names.ensures.paired

pub returns-clause-kept : goal.returns-clause-kept
returns-clause-kept c =
    let t : TableLists = lists_of c.args.self.now in
    let a : LoadedLists = again t c.in_ok-labels.labels.keys c.in_ok-order.order.items c.in_ok-links.links c.in_ok-lines.lines.items in
    let r : IsRenewed t a =
    is_again t c.in_ok-labels.labels.keys c.in_ok-order.order.items c.in_ok-links.links c.in_ok-lines.lines.items
    c.in_ok-labels.ensures c.in_ok-order.ensures c.in_ok-links.ensures.named c.in_ok-links.ensures.within c.in_ok-lines.ensures in
    let h : IsLoading a = loading_renewed t c.requires.kept.tables a r in
    let same : record (tables_of a) { index = c.in_ok-index.index } ≡ record {
      names = t.names;
      labels = c.of.result.labels;
      facts = c.of-2.result.items;
      pairs = c.in_ok-pairs.pairs.items;
      marks = t.marks;
      index = c.in_ok-index.index;
    } = λ i. record {
      names = t.names;
      labels = sym (ap (λ (l : LabelLists). l.labels) c.of.ensures) i;
      facts = sym c.of-2.ensures.items i;
      pairs = sym (ap (λ (p : PairLists). p.items) c.in_ok-pairs.ensures) i;
      marks = t.marks;
      index = c.in_ok-index.index;
    } in
    record { tables = subst AreTables same (c.in_ok-index.ensures.tables a refl refl refl h); order = tt }

pub returns-clause-net : goal.returns-clause-net
returns-clause-net c =
    let t : TableLists = lists_of c.args.self.now in
    let a : LoadedLists = again t c.in_ok-labels.labels.keys c.in_ok-order.order.items c.in_ok-links.links c.in_ok-lines.lines.items in
    let r : IsRenewed t a =
    is_again t c.in_ok-labels.labels.keys c.in_ok-order.order.items c.in_ok-links.links c.in_ok-lines.lines.items
    c.in_ok-labels.ensures c.in_ok-order.ensures c.in_ok-links.ensures.named c.in_ok-links.ensures.within c.in_ok-lines.ensures in
    let h : IsLoading a = loading_renewed t c.requires.kept.tables a r in
    let same : record (tables_of a) { index = c.in_ok-index.index } ≡ record {
      names = t.names;
      labels = c.of.result.labels;
      facts = c.of-2.result.items;
      pairs = c.in_ok-pairs.pairs.items;
      marks = t.marks;
      index = c.in_ok-index.index;
    } = λ i. record {
      names = t.names;
      labels = sym (ap (λ (l : LabelLists). l.labels) c.of.ensures) i;
      facts = sym c.of-2.ensures.items i;
      pairs = sym (ap (λ (p : PairLists). p.items) c.in_ok-pairs.ensures) i;
      marks = t.marks;
      index = c.in_ok-index.index;
    } in
    ap net_of (sym same)
    ∙ same_net a h c.len-names.ensures.distinct c.len-names.ensures.paired c.in_ok-index.index c.in_ok-index.ensures.lines
    ∙ net_renewed t c.requires.kept.tables a r
