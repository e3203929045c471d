use Rattle.dl_graph.specs.Numbers.{heads}
use Rattle.dl_derive.specs.Back.{Is, Gains}
use Rattle.dl_derive.proofs.Gaining.{InFront}
use Rattle.dl_derive.proofs.part.put_heads.Given as goal

abbrev pub invariant-loop-at : goal.invariant-loop-at
invariant-loop-at l = record {
  gains : Gains (InFront Is (heads l.net l.number) l.at) l.fn.rules l.rules;
}
