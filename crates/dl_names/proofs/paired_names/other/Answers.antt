use Rattle.std.proofs.Common.{arith}
use Rattle.dl_names.proofs.NameLemmas.{flip_even, flip_odd}
use Rattle.dl_names.proofs.paired_names.other.Goals as goal

pub returns-then-number-eq0 : goal.returns-then-number-eq0
returns-then-number-eq0 c = let e = flip_even c.args.number (omega arith) in omega (arith, e)

pub returns-else-number-eq0 : goal.returns-else-number-eq0
returns-else-number-eq0 c = let e = flip_odd c.args.number (λ z. omega (arith, z)) in omega (arith, e)
