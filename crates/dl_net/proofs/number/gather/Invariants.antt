use Rattle.std.proofs.Common.{◌≡◌, take}
use Rattle.dl_rows.specs.Counting.{each_once}
use Rattle.dl_net.proofs.number.gather.Given as goal

abbrev pub invariant-loop-number : goal.invariant-loop-number
invariant-loop-number l = record {
  bound : l.seen.bound ≡ l.fn.seen.bound;
  members : l.seen.members ≡ each_once (take l.number-index l.numbers);
}
