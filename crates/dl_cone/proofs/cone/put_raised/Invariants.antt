use Rattle.dl_theory.specs.Cones.{IsOrAttacks}
use Rattle.dl_graph.specs.Numbers.{next, rule_at}
use Rattle.dl_graph.specs.declared.link.Link.TheVariants.{Uses}
use Rattle.dl_derive.specs.Back.{Gains}
use Rattle.dl_derive.proofs.Gaining.{InFront}
use Rattle.dl_cone.specs.Walked.{IsNumberOf}
use Rattle.dl_cone.proofs.cone.put_raised.Given as goal

abbrev pub invariant-loop-at : goal.invariant-loop-at
invariant-loop-at l = record {
  gains : Gains (InFront (λ r. IsNumberOf l.net (IsOrAttacks l.net.theory (rule_at l.net r).head)) (next l.net Uses l.number) l.at) l.fn.region l.region;
}
