use Rattle.dl_gen.specs.Running.{HasMade}
use Rattle.dl_gen.proofs.run.make_each.Given as goal

abbrev pub invariant-loop-call : goal.invariant-loop-call
invariant-loop-call g l = HasMade l.initial.seat l.seat l.yielded
