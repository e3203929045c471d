use Rattle.std.proofs.Common.{◌≡◌}
use Rattle.dl_draw.proofs.load.add_pairs.Given as goal

abbrev pub invariant-loop-pair : goal.invariant-loop-pair
invariant-loop-pair l = l.theory ≡ record l.initial.theory { pairs = l.yielded }
