use Rattle.std.proofs.Common.{◌≡◌, take}
use Rattle.std.specs.List.{flat_map}
use Rattle.dl_conclusions.specs.Placing.{pair_numbers}
use Rattle.dl_conclusions.proofs.order.numbers_of.Given as goal

abbrev pub invariant-loop-placed : goal.invariant-loop-placed
invariant-loop-placed l = l.numbers.items ≡ flat_map (pair_numbers l.net) (take l.placed-index l.list)
