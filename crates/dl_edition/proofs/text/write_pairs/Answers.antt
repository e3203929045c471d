use Rattle.std.proofs.Common.{◌∙◌, arith}
use Rattle.std.proofs.lemmas.Result.{err_from_is_err_and}
use Rattle.std.specs.Option.{option_map}
use Rattle.dl_graph.specs.Borrowed.{pair_of}
use Rattle.dl_print.specs.Text.{pair_text, line}
use Rattle.dl_edition.proofs.Writing.{slot_cut, slot_more, slots_done}
use Rattle.dl_edition.proofs.text.write_pairs.Goals as goal

pub returns-in_err-write_pair_line-clause-bytes : goal.returns-in_err-write_pair_line-clause-bytes
returns-in_err-write_pair_line-clause-bytes g c =
    let N = c.args.net.now in
    let p = err_from_is_err_and c.from_residual.result c.from_residual.ensures.1 in
    rw p.1
    (slot_cut (line pair_text) N.theory.pairs N.pairs c.requires.pairs c.loop-number.number (option_map pair_of c.pair.result)
    (omega (arith, c.loop-number-test.true, c.pair_numbers-number-end.ensures)) c.pair.ensures _ _ _ c.loop-number.invariant.bytes c.in_err-write_pair_line.ensures.bytes)

pub loop-number-preserved : goal.loop-number-preserved
loop-number-preserved g c =
    let N = c.args.net.now in
    record {
      bytes = slot_more (line pair_text) N.theory.pairs N.pairs c.requires.pairs c.loop-number.number (option_map pair_of c.pair.result)
          (omega (arith, c.loop-number-test.true, c.pair_numbers-number-end.ensures)) c.pair.ensures _ _ _ c.loop-number.invariant.bytes c.in_ok-write_pair_line.ensures.bytes;
      faults = c.in_ok-write_pair_line.ensures.cause ∙ c.loop-number.invariant.faults;
      name = c.write_pair_line.ensures.name ∙ c.loop-number.invariant.name;
    }

pub returns-clause-bytes : goal.returns-clause-bytes
returns-clause-bytes g c =
    let N = c.args.net.now in
    slots_done (line pair_text) N.theory.pairs N.pairs c.requires.pairs c.loop-number.number _ _
    (omega (arith, c.loop-number-test.false, c.pair_numbers-number-end.ensures)) c.loop-number.invariant.bytes
