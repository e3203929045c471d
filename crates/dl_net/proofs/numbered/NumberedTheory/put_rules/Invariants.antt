use Rattle.std.proofs.Common.{◌≡◌, ◌++◌, take}
use Rattle.dl_net.proofs.numbered.NumberedTheory.put_rules.Given as goal

abbrev pub invariant-loop-rule : goal.invariant-loop-rule
invariant-loop-rule l = l.self.theory ≡ record l.fn.self.theory { rules = l.fn.self.theory.rules ++ take l.rule-index l.rules }
