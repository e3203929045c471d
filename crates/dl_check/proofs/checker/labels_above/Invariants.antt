use Rattle.std.proofs.Common.{take}
use Rattle.std.specs.Str.{bytes_eq}
use Rattle.dl_check.specs.Groups.{IsGrouped}
use Rattle.dl_check.proofs.checker.labels_above.Given as goal

abbrev pub invariant-loop-pair : goal.invariant-loop-pair
invariant-loop-pair l = IsGrouped bytes_eq (λ p. p.lower) (λ p. p.upper) l.groups.groups.entries (take l.pair-index l.pairs)
