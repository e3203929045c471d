use Rattle.std.proofs.Common.{All, take}
use Rattle.dl_calls.specs.Spelled.{IsSpelledLiteral}
use Rattle.dl_calls.proofs.spelled.literals_are_spelled.Given as goal

abbrev pub invariant-loop-literal : goal.invariant-loop-literal
invariant-loop-literal l = All IsSpelledLiteral (take l.literal-index l.literals)
