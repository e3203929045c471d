use Rattle.std.proofs.Common.{◌≡◌, take}
use Rattle.dl_lit.proofs.names.copied.Given as goal

abbrev pub invariant-loop-literal : goal.invariant-loop-literal
invariant-loop-literal l = l.set.keys ≡ take l.literal-index l.literals
