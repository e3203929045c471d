use Rattle.std.proofs.Common.{◌≡◌, ◌≤◌, length, take}
use Rattle.std.specs.Prelude.{filter}
use Rattle.dl_rules.specs.Lines.{passes, line_at}
use Rattle.dl_rules.proofs.kinds.count.Given as goal

abbrev pub invariant-loop-rule : goal.invariant-loop-rule
invariant-loop-rule l = record {
  value : l.count ≡ length (filter (λ s. passes l.strict (line_at l.lines.items s).kind) (take l.rule-index l.rules));
  few : l.count ≤ l.rule-index;
}
