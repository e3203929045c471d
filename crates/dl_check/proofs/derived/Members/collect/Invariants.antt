use Rattle.std.proofs.Common.{take}
use Rattle.dl_check.specs.Derived.{HasMembers}
use Rattle.dl_check.proofs.derived.Members.collect.Given as goal

abbrev pub invariant-loop-member : goal.invariant-loop-member
invariant-loop-member l = HasMembers l.members (take l.member-index l.list)
