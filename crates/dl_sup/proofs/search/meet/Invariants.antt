use Rattle.std.proofs.Common.{◌≡◌, ◌+◌}
use Rattle.std.specs.Prelude.{Contains}
use Rattle.dl_sup.specs.declared.slot.Way.TheVariants.{Down, Up}
use Rattle.dl_sup.specs.Searching.{items_of, item_at, IsFront, work}
use Rattle.dl_sup.proofs.search.meet.Given as goal

abbrev pub invariant-loop-here : goal.invariant-loop-here
invariant-loop-here l = record {
  low : IsFront Down l.slots l.low;
  high : IsFront Up l.slots l.high;
  from : item_at l.low.visits 0 ≡ item_at l.fn.low.visits 0;
  to : item_at l.high.visits 0 ≡ item_at l.fn.high.visits 0;
  low_lacks : ¬ Contains (items_of l.low.visits) (item_at l.fn.high.visits 0);
  high_lacks : ¬ Contains (items_of l.high.visits) (item_at l.fn.low.visits 0);
}

abbrev pub decreases-loop-here : goal.decreases-loop-here
decreases-loop-here l = work l.slots l.low + work l.slots l.high
