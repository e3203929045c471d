use Rattle.std.proofs.Common.{◌<◌, length, ◌∙◌, arith}
use Rattle.dl_pages.proofs.NestedLemmas.{freeze_parts, freeze_nested, freeze_shared}
use Rattle.dl_pages.proofs.paged.freeze_pages.Goals as goal

pub returns-in_err-freeze_in-clause-items : goal.returns-in_err-freeze_in-clause-items
returns-in_err-freeze_in-clause-items g c =
    let within : c.loop-number.number < length c.loop-number.pages.items = omega (arith, c.loop-number-test.true, c.len.ensures.items) in
    freeze_parts c.loop-number.pages.items c.freeze_in.new.self.items c.loop-number.number c.freeze_in.ensures.page.0 within
    c.freeze_in.ensures.page.1 c.freeze_in.ensures.page.2
    ∙ c.loop-number.invariant.items

pub returns-in_err-freeze_in-clause-nested : goal.returns-in_err-freeze_in-clause-nested
returns-in_err-freeze_in-clause-nested g c =
    let within : c.loop-number.number < length c.loop-number.pages.items = omega (arith, c.loop-number-test.true, c.len.ensures.items) in
    freeze_nested c.loop-number.pages.items c.freeze_in.new.self.items c.loop-number.number c.freeze_in.ensures.page.0 within
    c.freeze_in.ensures.page.1 c.loop-number.pages.owned c.freeze_in.new.self.owned c.freeze_in.ensures.owned
    c.freeze_in.ensures.page.3 c.loop-number.invariant.nested

pub loop-number-preserved : goal.loop-number-preserved
loop-number-preserved g c =
    let within : c.loop-number.number < length c.loop-number.pages.items = omega (arith, c.loop-number-test.true, c.len.ensures.items) in
    let nested = freeze_nested c.loop-number.pages.items c.freeze_in.new.self.items c.loop-number.number c.in_ok-freeze_in.ensures.page.0 within
    c.in_ok-freeze_in.ensures.page.1 c.loop-number.pages.owned c.freeze_in.new.self.owned c.freeze_in.ensures.owned
    c.in_ok-freeze_in.ensures.page.3 c.loop-number.invariant.nested in
    record {
      items =
          freeze_parts c.loop-number.pages.items c.freeze_in.new.self.items c.loop-number.number c.in_ok-freeze_in.ensures.page.0 within
          c.in_ok-freeze_in.ensures.page.1 c.in_ok-freeze_in.ensures.page.2
          ∙ c.loop-number.invariant.items;
      nested = nested;
      within = c.next_owned-number-in-loop-number.ensures.within;
      here = c.next_owned-number-in-loop-number.ensures.here;
      shared =
          freeze_shared c.loop-number.pages.items c.freeze_in.new.self.items c.loop-number.number c.in_ok-freeze_in.ensures.page.0 within
          c.in_ok-freeze_in.ensures.page.1 c.freeze_in.new.self.owned c.next_owned-number-in-loop-number.result
          c.in_ok-freeze_in.ensures.page.4 c.loop-number.invariant.shared c.next_owned-number-in-loop-number.ensures.none nested;
    }
