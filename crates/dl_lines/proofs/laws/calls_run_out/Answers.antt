use Rattle.dl_lines.proofs.Accounts.{run_out}
use Rattle.dl_lines.proofs.laws.calls_run_out.Goals as goal

pub returns : goal.returns
returns c = run_out
