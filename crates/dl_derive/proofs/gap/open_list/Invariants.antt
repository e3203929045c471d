use Rattle.std.proofs.Common.{◌≡◌, take}
use Rattle.dl_marks.specs.Marks.{marked}
use Rattle.dl_derive.specs.Gap.{open_members}
use Rattle.dl_derive.proofs.gap.open_list.Given as goal

abbrev pub invariant-loop-place : goal.invariant-loop-place
invariant-loop-place l = l.list.items ≡ open_members l.net (marked l.marks) l.family (take l.place l.region.members)
