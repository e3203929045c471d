use Rattle.std.proofs.Common.{◌∙◌, arith}
use Rattle.std.proofs.Math.ListN.{length-set}
use Rattle.dl_pages.proofs.PageLemmas.{parts_same, shared_next}
use Rattle.dl_pages.proofs.pages.freeze_all.Goals as goal

pub returns-in_err-freeze-clause-items : goal.returns-in_err-freeze-clause-items
returns-in_err-freeze-clause-items g c =
    parts_same c.loop-number.pages.items c.loop-number.number c.index_mut-page.result.now c.freeze.new.self (omega (arith, c.loop-number.invariant.count)) c.index_mut-page.ensures.value
    c.freeze.ensures.items
    ∙ c.loop-number.invariant.items

pub loop-number-preserved : goal.loop-number-preserved
loop-number-preserved g c = record {
  count = length-set c.loop-number.pages.items c.loop-number.number c.freeze.new.self ∙ c.loop-number.invariant.count;
  items =
      parts_same c.loop-number.pages.items c.loop-number.number c.index_mut-page.result.now c.freeze.new.self (omega (arith, c.loop-number.invariant.count)) c.index_mut-page.ensures.value
      c.freeze.ensures.items
      ∙ c.loop-number.invariant.items;
  shared =
      shared_next c.loop-number.pages.items c.loop-number.number c.index_mut-page.result.now c.freeze.new.self (omega (arith, c.loop-number.invariant.count)) c.index_mut-page.ensures.value
      c.in_ok-freeze.ensures.shared c.loop-number.invariant.shared;
}
