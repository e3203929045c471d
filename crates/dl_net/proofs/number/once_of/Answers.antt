use Rattle.std.proofs.Common.{sym, ◌∙◌}
use Rattle.dl_rules.proofs.OnceLemmas.{each_once_full}
use Rattle.dl_net.proofs.number.once_of.Goals as goal

pub returns-then-once_len-numbers : goal.returns-then-once_len-numbers
returns-then-once_len-numbers c = sym (each_once_full c.args.numbers.now (sym c.once_len.ensures ∙ c.if-once_len-numbers.true))
