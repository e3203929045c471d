use Rattle.std.proofs.Common.{◌≡◌, take}
use Rattle.dl_check.proofs.checker.collect_facts.Given as goal

abbrev pub invariant-loop-fact : goal.invariant-loop-fact
invariant-loop-fact l = l.set.keys ≡ take l.fact-index l.facts
