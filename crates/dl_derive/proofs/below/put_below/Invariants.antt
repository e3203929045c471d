use Rattle.std.proofs.Common.{map, take}
use Rattle.dl_base.specs.Paths.{IsDistinct}
use Rattle.dl_graph.specs.Numbers.{next}
use Rattle.dl_graph.specs.declared.link.Link.TheVariants.{Counters}
use Rattle.dl_derive.specs.Part.{Gathers, pair_at}
use Rattle.dl_derive.proofs.below.put_below.Given as goal

abbrev pub invariant-loop-at : goal.invariant-loop-at
invariant-loop-at l = record {
  distinct : IsDistinct l.pairs.keys;
  pairs : Gathers (map (pair_at l.net l.rule) (take l.at (next l.net Counters l.rule))) l.fn.pairs.keys l.pairs.keys;
}
