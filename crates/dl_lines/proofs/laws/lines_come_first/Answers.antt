use Rattle.dl_lines.proofs.Accounts.{come_first}
use Rattle.dl_lines.proofs.laws.lines_come_first.Goals as goal

pub returns : goal.returns
returns c = come_first
