use Rattle.std.proofs.Common.{◌≡◌, sym, ap, subst, ◌∙◌}
use Rattle.dl_graph.specs.Tables.{TableLists, AreTables, net_of}
use Rattle.dl_net.specs.Kept.{lists_of}
use Rattle.dl_net.proofs.Reindexed.{net_anew, tables_anew}
use Rattle.dl_net.proofs.tables.Tables.copy.Goals as goal

pub returns-clause-kept : goal.returns-clause-kept
returns-clause-kept c =
    let old : TableLists = lists_of c.args.self.now in
    let same : record {
      names = c.in_ok-names.names.literals;
      labels = c.in_ok-labels.labels.labels;
      facts = c.in_ok-facts.facts.items;
      pairs = c.in_ok-pairs.pairs.items;
      marks = c.in_ok-marks.marks.items;
      index = c.in_ok-index.index;
    } ≡ record old { index = c.in_ok-index.index } = λ i. record {
      names = (c.in_ok-names.ensures i).literals;
      labels = (c.in_ok-labels.ensures i).labels;
      facts = c.in_ok-facts.ensures.items i;
      pairs = (c.in_ok-pairs.ensures i).items;
      marks = c.in_ok-marks.ensures i;
      index = c.in_ok-index.index;
    } in
    record {
      tables = subst AreTables (sym same)
          (tables_anew old c.in_ok-index.index c.in_ok-index.ensures.lines c.in_ok-index.ensures.lowers c.in_ok-index.ensures.uppers c.requires.kept.tables);
      order = tt;
    }

pub returns-clause-net : goal.returns-clause-net
returns-clause-net c =
    let old : TableLists = lists_of c.args.self.now in
    ap net_of (λ i. record {
      names = (c.in_ok-names.ensures i).literals;
      labels = (c.in_ok-labels.ensures i).labels;
      facts = c.in_ok-facts.ensures.items i;
      pairs = (c.in_ok-pairs.ensures i).items;
      marks = c.in_ok-marks.ensures i;
      index = c.in_ok-index.index;
    }) ∙ net_anew old c.in_ok-index.index c.in_ok-index.ensures.lines
