use Rattle.dl_fill.specs.Spans.{side, IsSpans}
use Rattle.dl_fill.proofs.spans.Spans.by.Given as goal

abbrev pub invariant-loop-at : goal.invariant-loop-at
invariant-loop-at l = IsSpans (side l.to) l.wires l.at l.spans
