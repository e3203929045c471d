use Rattle.std.proofs.Common.{◌+◌, ◌∙◌}
use Rattle.dl_pages.proofs.PageLemmas.{appended_more}
use Rattle.dl_pages.proofs.NestedLemmas.{nested_up, nested_push}
use Rattle.dl_pages.proofs.paged.append_pages.Goals as goal

pub loop-pages-preserved : goal.loop-pages-preserved
loop-pages-preserved g c =
    let m = c.loop-pages.invariant.appended.0 in
    record {
      appended = (
        m + 1,
        appended_more c.args.pages.now.items c.widen.new.self.items c.push.new.self.items m c.in_ok-page.page
            (c.widen.ensures.items ∙ c.loop-pages.invariant.appended.1) c.in_ok-page.ensures c.push.ensures.items,
      );
      nested =
          nested_push c.widen.new.self.items c.push.new.self.items c.widen.new.self.owned c.push.new.self.owned c.in_ok-page.page
          (nested_up c.loop-pages.pages.items c.widen.new.self.items c.loop-pages.pages.owned c.widen.new.self.owned c.widen.ensures.items
          c.widen.ensures.owned c.loop-pages.invariant.nested)
          c.push.ensures.items c.push.ensures.owned c.push.ensures.here;
    }
