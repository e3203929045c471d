use Rattle.dl_lines.proofs.Accounts.{begins}
use Rattle.dl_lines.proofs.laws.accounts_begin.Goals as goal

pub returns : goal.returns
returns c = begins
