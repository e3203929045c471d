use Rattle.std.proofs.Common.{◌-◌, length}
use Rattle.dl_graph.specs.Numbers.{attackers_row, literal_at}
use Rattle.dl_derive.specs.Back.{Is, Gains}
use Rattle.dl_derive.proofs.Gaining.{InFront}
use Rattle.dl_derive.proofs.back.put_attackers.Given as goal

abbrev pub invariant-loop-attacker : goal.invariant-loop-attacker
invariant-loop-attacker l = record {
  gains : Gains (InFront Is (attackers_row l.net (literal_at l.net l.number)) l.at) l.fn.found l.found;
}

abbrev pub decreases-loop-attacker : goal.decreases-loop-attacker
decreases-loop-attacker l = length (attackers_row l.net (literal_at l.net l.number)) - l.at
