use Rattle.std.proofs.Common.{◌≡◌, length, take}
use Rattle.dl_rules.specs.Indexes.{HasRules}
use Rattle.dl_rules.proofs.rule_lists.RuleLists.of.Given as goal

abbrev pub invariant-loop-rule : goal.invariant-loop-rule
invariant-loop-rule l = record {
  rules : HasRules (take l.rule l.lines.items) l.lists.heads l.lists.uses;
  heads_wide : length l.lists.heads.lists ≡ length l.initial.lists.heads.lists;
  uses_wide : length l.lists.uses.lists ≡ length l.initial.lists.heads.lists;
}
