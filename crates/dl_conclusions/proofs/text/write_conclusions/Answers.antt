use Rattle.std.proofs.Common.{◌∙◌, List, ℕ, drop, subst, sym, arith}
use Rattle.std.specs.List.{flat_map}
use Rattle.std.proofs.lemmas.Result.{err_from_is_err_and}
use Rattle.dl_print.proofs.Writes.{Cuts, cut_first, lines_cut}
use Rattle.dl_conclusions.specs.Text.{conclusion_line, lines_before}
use Rattle.dl_conclusions.proofs.text.write_conclusions.Goals as goal

pub returns-in_err-write_block-clause-bytes : goal.returns-in_err-write_block-clause-bytes
returns-in_err-write_block-clause-bytes g c =
    let p = err_from_is_err_and c.from_residual.result c.from_residual.ensures.1 in
    let f = conclusion_line c.args.family in
    let cs = c.args.conclusions.now in
    let to = c.block_end-to.result in
    let cut = c.in_err-write_block.ensures.bytes _ c.loop-from.invariant.bytes in
    rw p.1
    (subst (λ (all : List ℕ). Cuts (g.S.Sink.written c.args.sink.now) (g.S.Sink.written c.write_block.new.sink) all) (sym (lines_cut f cs to))
    (cut_first _ _ (lines_before c.args.family cs to) (flat_map f (drop to cs)) cut))

pub loop-from-preserved : goal.loop-from-preserved
loop-from-preserved g c = record {
  within = omega (arith, c.block_end-to.ensures.within, c.len-in-loop-from.ensures);
  bytes = c.in_ok-write_block.ensures.bytes _ c.loop-from.invariant.bytes;
  faults = c.in_ok-write_block.ensures.cause ∙ c.loop-from.invariant.faults;
  name = c.write_block.ensures.name ∙ c.loop-from.invariant.name;
}
