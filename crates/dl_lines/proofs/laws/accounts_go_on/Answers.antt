use Rattle.dl_lines.proofs.Accounts.{goes_on}
use Rattle.dl_lines.proofs.laws.accounts_go_on.Goals as goal

pub returns : goal.returns
returns c = goes_on
