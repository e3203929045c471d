use Rattle.std.proofs.Common.{◌≡◌, ◌++◌, ◌-◌, length, take}
use Rattle.dl_names.proofs.shared_pairs.joined.Given as goal

abbrev pub invariant-loop-first : goal.invariant-loop-first
invariant-loop-first l = l.both ≡ l.shared ++ take l.place l.later

abbrev pub decreases-loop-first : goal.decreases-loop-first
decreases-loop-first l = length l.later - l.place
