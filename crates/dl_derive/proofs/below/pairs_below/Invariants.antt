use Rattle.std.proofs.Common.{take}
use Rattle.std.specs.Prelude.{◌↔◌, Contains}
use Rattle.dl_base.specs.Paths.{IsDistinct}
use Rattle.dl_theory.specs.declared.rule.Pair.{Pair}
use Rattle.dl_derive.specs.Part.{IsBelow}
use Rattle.dl_derive.proofs.below.pairs_below.Given as goal

abbrev pub invariant-loop-at : goal.invariant-loop-at
invariant-loop-at l = record {
  distinct : IsDistinct l.pairs.keys;
  pairs : (p : Pair) → Contains l.pairs.keys p ↔ IsBelow l.net (take l.at l.rules.members) p;
}
