use Rattle.std.proofs.Common.{◌≡◌, ◌≤◌, ◌++◌, take, length}
use Rattle.dl_sup.specs.Adding.{AreAddable}
use Rattle.dl_sup.proofs.order.Order.add_all.Given as goal

abbrev pub invariant-loop-at : goal.invariant-loop-at
invariant-loop-at l = record {
  within : l.at ≤ length l.links;
  front : AreAddable l.fn.self (take l.at l.links);
  added : l.fresh ≡ l.fn.self ++ take l.at l.links;
  held : l.self ≡ l.fn.self;
}
