use Rattle.std.proofs.Common.{ap, ◌∙◌}
use Rattle.std.specs.Prelude.{nat_lt}
use Rattle.dl_definite.proofs.Definite.{proves_where_strict}
use Rattle.dl_definite.proofs.gates.is_strict.Goals as goal

pub returns : goal.returns
returns c = ap (nat_lt 0) c.next_len.ensures ∙ proves_where_strict c.args.net.now c.args.rule
