use Rattle.dl_conclusions.specs.Placing.{ArePlaced}
use Rattle.dl_conclusions.proofs.order.placed.Given as goal

abbrev pub invariant-loop-number : goal.invariant-loop-number
invariant-loop-number l = ArePlaced l.net l.number l.list.items
