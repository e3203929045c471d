use Rattle.std.proofs.Common.{◌≡◌, ◌<◌, ◌+◌, ◌*◌}
use Rattle.dl_marks.proofs.steps.Steps.grow.Given as goal

abbrev pub invariant-loop : goal.invariant-loop
invariant-loop g l = (l.self-inside.book.total ≡ l.initial.self-inside.book.total + l.counter * l.count) × (0 < l.self-inside.share.parts)
