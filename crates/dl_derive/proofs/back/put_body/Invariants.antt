use Rattle.dl_graph.specs.Numbers.{back}
use Rattle.dl_graph.specs.declared.link.Link.TheVariants.{Uses}
use Rattle.dl_derive.specs.Back.{Is, Gains}
use Rattle.dl_derive.proofs.Gaining.{InFront}
use Rattle.dl_derive.proofs.back.put_body.Given as goal

abbrev pub invariant-loop-at : goal.invariant-loop-at
invariant-loop-at l = record {
  gains : Gains (InFront Is (back l.net Uses l.rule) l.at) l.fn.found l.found;
}
