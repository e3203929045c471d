use Rattle.std.proofs.Common.{◌≡◌, take}
use Rattle.dl_theory.proofs.lists.TaggedList.copy.Given as goal

abbrev pub invariant-loop-tagged : goal.invariant-loop-tagged
invariant-loop-tagged l = l.items.items ≡ take l.tagged-index l.self
