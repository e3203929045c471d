use Rattle.dl_graph.specs.Numbers.{heads, back}
use Rattle.dl_graph.specs.declared.link.Link.TheVariants.{Uses}
use Rattle.dl_derive.specs.Back.{Is, FromRow, Gains}
use Rattle.dl_derive.proofs.Gaining.{InFront}
use Rattle.dl_derive.proofs.back.put_rules.Given as goal

abbrev pub invariant-loop-at : goal.invariant-loop-at
invariant-loop-at l = record {
  gains : Gains (InFront (λ r. FromRow Is (back l.net Uses r)) (heads l.net l.number) l.at) l.fn.found l.found;
}
