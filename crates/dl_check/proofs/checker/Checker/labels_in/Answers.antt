use Rattle.std.proofs.Common.{arith, ◌≡◌, ◌<◌, ◌&&◌, List, length, get_or, ap, subst}
use Rattle.std.specs.Set.{is_member}
use Rattle.std.specs.Str.{bytes_eq}
use Rattle.dl_theory.specs.declared.rule.Rule.{Rule}
use Rattle.dl_check.specs.Derived.{is_derived}
use Rattle.dl_check.specs.Bands.{is_in}
use Rattle.dl_check.specs.Checking.{row}
use Rattle.dl_check.proofs.Quantified.{any_more}
use Rattle.dl_check.proofs.checker.Checker.labels_in.Goals as goal

pub loop-rule-preserved : goal.loop-rule-preserved
loop-rule-preserved c = λ l.
    let rules : List Rule = row c.args.self.now c.args.q.now in
    let within : c.loop-rule.rule-index < length rules = omega (arith, c.loop-rule-test.true, ap length c.get-rule-items.ensures) in
    let item : c.rule-item.result ≡ get_or rules c.loop-rule.rule-index c.rule-item.result =
    subst (λ (xs : List Rule). c.rule-item.result ≡ get_or xs c.loop-rule.rule-index c.rule-item.result) c.get-rule-items.ensures c.rule-item.is in
    any_more (λ r. bytes_eq r.label l && is_in (is_derived c.args.derived.now) c.args.band r) rules c.loop-rule.rule-index c.rule-item.result within item
    (is_member bytes_eq c.loop-rule.labels.keys l) (is_member bytes_eq c.put_label.new.labels.keys l) (c.loop-rule.invariant l) (c.in_ok-put_label.ensures l)
