use Rattle.std.proofs.Common.{◌∙◌, arith}
use Rattle.std.proofs.lemmas.Result.{err_from_is_err_and}
use Rattle.std.specs.Option.{option_map}
use Rattle.dl_lit.specs.Borrowed.{literal_of}
use Rattle.dl_print.specs.Text.{fact_text, line}
use Rattle.dl_edition.proofs.Writing.{slot_cut, slot_more, slots_done}
use Rattle.dl_edition.proofs.text.write_facts.Goals as goal

pub returns-in_err-write_fact_line-clause-bytes : goal.returns-in_err-write_fact_line-clause-bytes
returns-in_err-write_fact_line-clause-bytes g c =
    let N = c.args.net.now in
    let p = err_from_is_err_and c.from_residual.result c.from_residual.ensures.1 in
    rw p.1
    (slot_cut (line fact_text) N.theory.facts N.facts c.requires.facts c.loop-number.number (option_map literal_of c.fact.result)
    (omega (arith, c.loop-number-test.true, c.fact_numbers-number-end.ensures)) c.fact.ensures _ _ _ c.loop-number.invariant.bytes c.in_err-write_fact_line.ensures.bytes)

pub loop-number-preserved : goal.loop-number-preserved
loop-number-preserved g c =
    let N = c.args.net.now in
    record {
      bytes = slot_more (line fact_text) N.theory.facts N.facts c.requires.facts c.loop-number.number (option_map literal_of c.fact.result)
          (omega (arith, c.loop-number-test.true, c.fact_numbers-number-end.ensures)) c.fact.ensures _ _ _ c.loop-number.invariant.bytes c.in_ok-write_fact_line.ensures.bytes;
      faults = c.in_ok-write_fact_line.ensures.cause ∙ c.loop-number.invariant.faults;
      name = c.write_fact_line.ensures.name ∙ c.loop-number.invariant.name;
    }

pub returns-clause-bytes : goal.returns-clause-bytes
returns-clause-bytes g c =
    let N = c.args.net.now in
    slots_done (line fact_text) N.theory.facts N.facts c.requires.facts c.loop-number.number _ _
    (omega (arith, c.loop-number-test.false, c.fact_numbers-number-end.ensures)) c.loop-number.invariant.bytes
