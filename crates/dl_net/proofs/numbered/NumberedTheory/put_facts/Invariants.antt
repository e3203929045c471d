use Rattle.std.proofs.Common.{◌≡◌, ◌++◌, take}
use Rattle.dl_net.proofs.numbered.NumberedTheory.put_facts.Given as goal

abbrev pub invariant-loop-fact : goal.invariant-loop-fact
invariant-loop-fact l = l.self.theory ≡ record l.fn.self.theory { facts = l.fn.self.theory.facts ++ take l.fact-index l.facts }
