use Rattle.std.proofs.Common.{◌≡◌, refl, sym, ap, subst, ◌∙◌}
use Rattle.dl_graph.specs.Tables.{TableLists, AreTables, net_of}
use Rattle.dl_net.specs.Kept.{lists_of}
use Rattle.dl_net.proofs.EditLemmas.{order_same}
use Rattle.dl_net.proofs.Reindexed.{net_anew, tables_anew}
use Rattle.dl_net.proofs.tables.Tables.freeze.Goals as goal

pub returns-clause-kept : goal.returns-clause-kept
returns-clause-kept c =
    let old : TableLists = lists_of c.args.self.now in
    let same : record {
      names = c.freeze.new.self.literals;
      labels = c.freeze-2.new.self.labels;
      facts = c.freeze-3.new.self.items;
      pairs = c.freeze-4.new.self.items;
      marks = c.freeze-marks.new.self.items;
      index = c.freeze-5.new.self;
    } ≡ record old { index = c.freeze-5.new.self } = λ i. record {
      names = (c.freeze.ensures i).literals;
      labels = (c.freeze-2.ensures i).labels;
      facts = c.freeze-3.ensures.items i;
      pairs = c.freeze-4.ensures.items i;
      marks = c.freeze-marks.ensures.items i;
      index = c.freeze-5.new.self;
    } in
    record {
      tables = subst AreTables (sym same)
          (tables_anew old c.freeze-5.new.self c.freeze-5.ensures.lines c.freeze-5.ensures.lowers c.freeze-5.ensures.uppers c.requires.kept.tables);
      order = order_same c.args.self.now.order c.args.self.now.order c.args.self.now.pairs.items c.freeze-4.new.self.items c.args.self.now.pairs.ready
          c.freeze-4.new.self.ready refl c.freeze-4.ensures.items (c.freeze-4.ensures.ready ∙ sym c.requires.settled.pair) c.requires.kept.order;
    }

pub returns-clause-net : goal.returns-clause-net
returns-clause-net c =
    let old : TableLists = lists_of c.args.self.now in
    ap net_of (λ i. record {
      names = (c.freeze.ensures i).literals;
      labels = (c.freeze-2.ensures i).labels;
      facts = c.freeze-3.ensures.items i;
      pairs = c.freeze-4.ensures.items i;
      marks = c.freeze-marks.ensures.items i;
      index = c.freeze-5.new.self;
    }) ∙ net_anew old c.freeze-5.new.self c.freeze-5.ensures.lines
