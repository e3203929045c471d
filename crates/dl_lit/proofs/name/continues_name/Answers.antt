use Rattle.std.proofs.Common.{arith}
use Rattle.dl_lit.proofs.NameBytes.{name_byte}
use Rattle.dl_lit.proofs.name.continues_name.Goals as goal

pub returns : goal.returns
returns c = name_byte c.args.byte (omega arith)
