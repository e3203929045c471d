use Rattle.std.proofs.Common.{All, take}
use Rattle.dl_calls.specs.Spelled.{IsName}
use Rattle.dl_calls.proofs.spelled.names_are_spelled.Given as goal

abbrev pub invariant-loop-name : goal.invariant-loop-name
invariant-loop-name l = All IsName (take l.name-index l.names)
