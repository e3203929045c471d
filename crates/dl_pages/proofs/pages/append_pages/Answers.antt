use Rattle.std.proofs.Common.{◌+◌}
use Rattle.dl_pages.proofs.PageLemmas.{appended_more}
use Rattle.dl_pages.proofs.pages.append_pages.Goals as goal

pub loop-pages-preserved : goal.loop-pages-preserved
loop-pages-preserved g c =
    let m = c.loop-pages.invariant.0 in (
      m + 1,
      appended_more c.args.pages.now.items c.loop-pages.pages.items c.push.new.self.items m c.in_ok-page.page c.loop-pages.invariant.1 c.in_ok-page.ensures
          c.in_ok-push.ensures.items,
    )
