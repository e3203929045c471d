use Rattle.std.proofs.Common.{◌-◌, length}
use Rattle.dl_graph.specs.Numbers.{attackers_row, literal_at}
use Rattle.dl_derive.specs.Wanted.{IsMore}
use Rattle.dl_derive.proofs.Wanting.{InFrontOf}
use Rattle.dl_derive.proofs.wanted.want_attackers.Given as goal

abbrev pub invariant-loop-attacker : goal.invariant-loop-attacker
invariant-loop-attacker l = record {
  more : IsMore l.fn.wanted.items l.wanted.items;
  front : InFrontOf (attackers_row l.net (literal_at l.net l.number)) l.kind l.at l.wanted.items;
}

abbrev pub decreases-loop-attacker : goal.decreases-loop-attacker
decreases-loop-attacker l = length (attackers_row l.net (literal_at l.net l.number)) - l.at
