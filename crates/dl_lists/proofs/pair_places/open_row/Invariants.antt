use Rattle.std.proofs.Common.{◌≡◌, length}
use Rattle.dl_pages.specs.Paged.{KeepsOwned}
use Rattle.dl_rows.specs.Tables.{KeepsLists}
use Rattle.dl_lists.proofs.DropLemmas.{CanClearUpTo}
use Rattle.dl_lists.proofs.pair_places.open_row.Given as goal

abbrev pub invariant-loop-number : goal.invariant-loop-number
invariant-loop-number l = record {
  items : l.pairs.items ≡ l.fn.pairs.items;
  owned : KeepsOwned l.fn.pairs l.pairs;
  kept : KeepsLists l.fn.others l.others;
  same : length l.others.lists ≡ length l.fn.others.lists;
  clear : CanClearUpTo l.pairs l.others l.row l.rule l.number-index;
}
