use Rattle.std.proofs.Common.{◌≡◌, take}
use Rattle.dl_theory.specs.Lists.{TheoryLists}
use Rattle.dl_theory.specs.Derivations.{IsDerivation}
use Rattle.dl_check.specs.declared.derived.Reading.TheVariants.{Inside}
use Rattle.dl_check.specs.Derived.{HasMembers}
use Rattle.dl_check.specs.Checking.{StandsFor}
use Rattle.dl_check.proofs.checker.Checker.walk_derivation.Given as goal

abbrev pub invariant-loop-at : goal.invariant-loop-at
invariant-loop-at l = record {
  reading : l.derived.reading ≡ Inside;
  members : HasMembers l.derived.members (take l.at l.list);
  fine : (T : TheoryLists) → StandsFor l.self T → IsDerivation T (take l.at l.list);
}
