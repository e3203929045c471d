use Rattle.dl_read.proofs.TaggedReading.{tagged_ok, tagged_err}
use Rattle.dl_read.proofs.tagged.read_tagged.Goals as goal

pub returns-in-Ok : goal.returns-in-Ok
returns-in-Ok c = tagged_ok c.args.line.now c.in-Some.rest.now c.in-Some.tag c.in-Ok.literal c.in-Some.ensures c.in-Ok.ensures

pub returns-in-Err : goal.returns-in-Err
returns-in-Err c = tagged_err c.args.line.now c.in-Some.rest.now c.in-Some.tag c.in-Err.stop c.in-Some.ensures c.in-Err.ensures
