use Rattle.std.proofs.Common.{take}
use Rattle.std.specs.Prelude.{All}
use Rattle.dl_base.specs.Paths.{IsDistinct}
use Rattle.dl_theory.specs.Lists.{TheoryLists}
use Rattle.dl_check.specs.Derived.{HasMembers}
use Rattle.dl_check.specs.Checking.{StandsFor}
use Rattle.dl_check.specs.Flaws.{IsMet}
use Rattle.dl_check.proofs.checker.Checker.walk_gap.Given as goal

abbrev pub invariant-loop-at : goal.invariant-loop-at
invariant-loop-at l = record {
  seen : HasMembers l.seen (take l.at l.list);
  distinct : IsDistinct (take l.at l.list);
  unmet : (T : TheoryLists) → StandsFor l.self T → All (λ x. ¬ IsMet T l.list x) (take l.at l.list);
}
