use Rattle.dl_io.specs.House.{IsShut}
use Rattle.dl_io.specs.Memory.{house_in_memory}
use Rattle.ddl_tests.proofs.houses.filled.Given as goal

abbrev pub invariant-loop-file : goal.invariant-loop-file
invariant-loop-file l = IsShut (house_in_memory l.house)
