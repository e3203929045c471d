use Rattle.std.proofs.Common.{◌≡◌, length, take}
use Rattle.dl_rows.specs.Counting.{each_once}
use Rattle.dl_net.proofs.number.once_len.Given as goal

abbrev pub invariant-loop-at : goal.invariant-loop-at
invariant-loop-at l = l.count ≡ length (each_once (take l.at l.numbers))
