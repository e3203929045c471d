use Rattle.std.proofs.Common.{◌≡◌, take, map}
use Rattle.std.specs.Prelude.{All, Contains}
use Rattle.dl_base.specs.Paths.{IsDistinct}
use Rattle.dl_names.specs.Paired.{IsPaired, IsNear, Grows, number_in}
use Rattle.dl_net.proofs.number.number_literals.Given as goal

abbrev pub invariant-loop-literal : goal.invariant-loop-literal
invariant-loop-literal l = record {
  paired : IsPaired l.names.literals;
  distinct : IsDistinct l.names.literals;
  grown : Grows (IsNear l.literals) l.fn.names.literals l.names.literals;
  there : All (Contains l.names.literals) (take l.literal-index l.literals);
  numbers : l.numbers.items ≡ map (number_in l.names.literals) (take l.literal-index l.literals);
  same : All (Contains l.fn.names.literals) l.literals → l.names ≡ l.fn.names;
}
