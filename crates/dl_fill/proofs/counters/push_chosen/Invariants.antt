use Rattle.std.proofs.Common.{◌≡◌, ◌++◌, take}
use Rattle.std.specs.Vec.{vec_capacity}
use Rattle.dl_fill.specs.Counters.{chosen}
use Rattle.dl_fill.proofs.counters.push_chosen.Given as goal

abbrev pub invariant-loop-at : goal.invariant-loop-at
invariant-loop-at l = record {
  items : l.queue.items ≡ l.fn.queue.items ++ chosen l.fires (take l.at l.nodes);
  capacity : vec_capacity l.queue ≡ vec_capacity l.fn.queue;
}
