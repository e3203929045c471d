use Rattle.std.proofs.Common.{◌≡◌}
use Rattle.dl_draw.proofs.load.add_facts.Given as goal

abbrev pub invariant-loop-fact : goal.invariant-loop-fact
invariant-loop-fact l = l.theory ≡ record l.initial.theory { facts = l.yielded }
