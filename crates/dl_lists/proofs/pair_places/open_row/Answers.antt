use Rattle.std.proofs.Common.{◌∙◌, arith}
use Rattle.dl_rows.proofs.Keeping.{KeepsLists-trans}
use Rattle.dl_lists.proofs.DropLemmas.{clear_more, clear_all}
use Rattle.dl_lists.proofs.pair_places.open_row.Goals as goal

pub loop-number-preserved : goal.loop-number-preserved
loop-number-preserved c =
    let h = c.loop-number.invariant in
    let e = c.in_ok-open_number.ensures in
    record {
      items = e.items ∙ h.items;
      owned = λ at was. e.owned at (h.owned at was);
      kept = KeepsLists-trans c.args.others.now c.loop-number.others c.open_number.new.others h.kept e.kept;
      same = e.same ∙ h.same;
      clear = clear_more c.args.rule c.args.row.now c.loop-number.number-index c.loop-number.pairs c.open_number.new.pairs c.loop-number.others
          c.open_number.new.others e.items e.owned e.kept e.same h.clear e.clear;
    }

pub returns-clause-clear : goal.returns-clause-clear
returns-clause-clear c =
    clear_all c.args.rule c.args.row.now c.loop-number.number-index c.loop-number.pairs c.loop-number.others
    (omega (arith, c.loop-number-test.false)) c.loop-number.invariant.clear
