use Rattle.dl_lists.proofs.DropLemmas.{IsClearing}
use Rattle.dl_lists.proofs.pair_places.drop_row.Given as goal

abbrev pub invariant-loop-number : goal.invariant-loop-number
invariant-loop-number l = IsClearing l.rule l.row l.number-index l.fn.pairs l.pairs l.fn.others l.others l.count
