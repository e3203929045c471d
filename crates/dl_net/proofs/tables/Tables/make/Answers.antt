use Rattle.std.proofs.Common.{◌≡◌, sym, subst}
use Rattle.dl_graph.specs.Tables.{TableLists, AreTables}
use Rattle.dl_net.proofs.NetLemmas.{no_tables, none_tables}
use Rattle.dl_net.proofs.tables.Tables.make.Goals as goal

pub returns-clause-kept : goal.returns-clause-kept
returns-clause-kept c =
    let none : record {
      names = c.make.result.literals;
      labels = c.make-2.result.labels;
      facts = c.make-3.result.items;
      pairs = c.make-4.result.items;
      marks = c.make-5.result.items;
      index = c.make-6.result;
    } ≡ no_tables = λ i. record {
      names = (c.make.ensures i).literals;
      labels = (c.make-2.ensures i).labels;
      facts = c.make-3.ensures.items i;
      pairs = (c.make-4.ensures i).items;
      marks = c.make-5.ensures.items i;
      index = c.make-6.ensures i;
    } in
    record { tables = subst (λ (t : TableLists). AreTables t) (sym none) none_tables; order = tt }
