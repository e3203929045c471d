use Rattle.std.proofs.Common.{◌∙◌, arith}
use Rattle.std.proofs.lemmas.Result.{err_from_is_err_and}
use Rattle.dl_print.specs.Text.{rule_text, line}
use Rattle.dl_edition.proofs.Writing.{slot_cut, slot_more, slots_done}
use Rattle.dl_edition.proofs.text.write_rules.Goals as goal

pub returns-in_err-write_rule_line-clause-bytes : goal.returns-in_err-write_rule_line-clause-bytes
returns-in_err-write_rule_line-clause-bytes g c =
    let N = c.args.net.now in
    let p = err_from_is_err_and c.from_residual.result c.from_residual.ensures.1 in
    rw p.1
    (slot_cut (line rule_text) N.theory.rules N.rules c.requires.rules c.loop-number.number (c.rule.result)
    (omega (arith, c.loop-number-test.true, c.rule_numbers-number-end.ensures)) c.rule.ensures _ _ _ c.loop-number.invariant.bytes c.in_err-write_rule_line.ensures.bytes)

pub loop-number-preserved : goal.loop-number-preserved
loop-number-preserved g c =
    let N = c.args.net.now in
    record {
      bytes = slot_more (line rule_text) N.theory.rules N.rules c.requires.rules c.loop-number.number (c.rule.result)
          (omega (arith, c.loop-number-test.true, c.rule_numbers-number-end.ensures)) c.rule.ensures _ _ _ c.loop-number.invariant.bytes c.in_ok-write_rule_line.ensures.bytes;
      faults = c.in_ok-write_rule_line.ensures.cause ∙ c.loop-number.invariant.faults;
      name = c.write_rule_line.ensures.name ∙ c.loop-number.invariant.name;
    }

pub returns-clause-bytes : goal.returns-clause-bytes
returns-clause-bytes g c =
    let N = c.args.net.now in
    slots_done (line rule_text) N.theory.rules N.rules c.requires.rules c.loop-number.number _ _
    (omega (arith, c.loop-number-test.false, c.rule_numbers-number-end.ensures)) c.loop-number.invariant.bytes
