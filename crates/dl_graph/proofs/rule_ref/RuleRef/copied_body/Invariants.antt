use Rattle.std.proofs.Common.{◌≡◌, ◌-◌, ◌≤◌, length, take}
use Rattle.dl_graph.proofs.rule_ref.RuleRef.copied_body.Given as goal

abbrev pub invariant-loop-body : goal.invariant-loop-body
invariant-loop-body l = record {
  copied : l.body ≡ take (length l.body) l.self.body;
  within : length l.body ≤ length l.self.body;
}

abbrev pub decreases-loop-body : goal.decreases-loop-body
decreases-loop-body l = length l.self.body - length l.body
