use Rattle.std.proofs.Common.{◌≡◌, ◌+◌, ◌^◌, ◌≤◌, drop, length}
use Rattle.dl_names.specs.Stems.{AreDigits, decimal}
use Rattle.dl_names.proofs.stems.cut.Given as goal

abbrev pub invariant-loop-prefix : goal.invariant-loop-prefix
invariant-loop-prefix l = record {
  whole : l.prefix + l.digits ≡ length l.name;
  few : l.digits ≤ 7;
  power : l.power ≡ 10 ^ l.digits;
  are : AreDigits (drop l.prefix l.name);
  value : l.value ≡ decimal (drop l.prefix l.name);
}

abbrev pub decreases-loop-prefix : goal.decreases-loop-prefix
decreases-loop-prefix l = l.prefix
