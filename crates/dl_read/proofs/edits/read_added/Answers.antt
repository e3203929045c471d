use Rattle.std.proofs.Common.{sym}
use Rattle.dl_read.proofs.EditReading.{adds_ok, adds_none, adds_err}
use Rattle.dl_read.proofs.edits.read_added.Goals as goal

pub returns-in-Some : goal.returns-in-Some
returns-in-Some c = adds_ok c.args.rest.now c.in-Ok.statement c.in-Some.edit (sym c.in-Some.ensures) c.in-Ok.ensures

pub returns-in-None : goal.returns-in-None
returns-in-None c = adds_none c.args.rest.now c.in-Ok.statement (sym c.in-None.ensures) c.in-Ok.ensures

pub returns-in-Err : goal.returns-in-Err
returns-in-Err c = adds_err c.args.rest.now c.in-Err.stop c.in-Err.ensures
