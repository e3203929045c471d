use Rattle.ddl.specs.Run.{generated}
use Rattle.ddl.proofs.program.generate.Goals as goal

pub returns-clause-shown : goal.returns-clause-shown
returns-clause-shown g c = λ holds. generated c.args.seed c.args.size c.in_ok-summary.summary c.in_ok-summary.ensures
