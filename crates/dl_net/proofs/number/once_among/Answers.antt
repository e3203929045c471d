use Rattle.std.proofs.Common.{length, sym, ap, arith}
use Rattle.dl_rules.proofs.OnceLemmas.{each_once_full}
use Rattle.dl_net.proofs.number.once_among.Goals as goal

pub returns-then-len-numbers : goal.returns-then-len-numbers
returns-then-len-numbers c =
    sym (each_once_full c.args.numbers.now
    (omega (arith, c.len.ensures.len, c.if-len-numbers.true, ap length c.gather.ensures)))
