use Rattle.std.proofs.Common.{◌≡◌}
use Rattle.dl_draw.proofs.load.add_rules.Given as goal

abbrev pub invariant-loop-rule : goal.invariant-loop-rule
invariant-loop-rule l = l.theory ≡ record l.initial.theory { rules = l.yielded }
