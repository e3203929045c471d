use Rattle.std.proofs.Common.{◌++◌, ◌∷◌, ◌∙◌, Bool, List, [], length, get_or, take, sym, ap, arith, length-set}
use Rattle.std.proofs.lemmas.List.{take_more_set}
use Rattle.std.proofs.lemmas.List.Sums.{fold_more}
use Rattle.dl_fill.specs.Cells.{CellLists, comes_down, counted_down, come_down}
use Rattle.dl_fill.proofs.Times.{times-get_or}
use Rattle.dl_fill.proofs.Blocks.{come_down_more, length-flags}
use Rattle.dl_fill.proofs.counters.count_down.Goals as goal

pub hit-requires : goal.hit-requires
hit-requires c =
    let ys = c.args.nodes.now in
    omega (arith, c.requires.inside (get_or ys c.loop-at.at 0) (times-get_or ys c.loop-at.at 0 (omega arith)), c.loop-at.invariant.size)

pub loop-at-preserved : goal.loop-at-preserved
loop-at-preserved c =
    let ys = c.args.nodes.now in
    let at = c.loop-at.at in
    let y = get_or ys at 0 in
    record {
      lower =
          c.hit.ensures.lower ∙ ap (λ (v : CellLists). counted_down v y) c.loop-at.invariant.lower
          ∙ sym (fold_more counted_down c.args.cells.now ys at 0 (omega arith));
      told =
          take_more_set c.loop-at.fires at c.hit.result (omega (arith, c.requires.few, c.loop-at.invariant.long))
          ∙ ap (λ (fs : List Bool). fs ++ c.hit.result ∷ []) c.loop-at.invariant.told
          ∙ ap (λ (b : Bool). come_down c.args.cells.now (take at ys) ++ b ∷ []) (c.hit.ensures.fires ∙ ap (λ (v : CellLists). comes_down v y) c.loop-at.invariant.lower)
          ∙ sym (come_down_more ys c.args.cells.now at (omega arith));
      long = length-set _ _ _ ∙ c.loop-at.invariant.long;
      size = ap (λ (v : CellLists). length v.flags) c.hit.ensures.lower ∙ length-flags c.loop-at.cells y ∙ c.loop-at.invariant.size;
    }
