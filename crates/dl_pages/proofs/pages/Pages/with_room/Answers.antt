use Rattle.std.proofs.Common.{◌++◌, replicate, ap, ◌∙◌, arith}
use Rattle.dl_pages.specs.Pages.{empty_page}
use Rattle.dl_pages.proofs.PageLemmas.{kept_empty, items_empty}
use Rattle.dl_pages.proofs.pages.Pages.with_room.Goals as goal

pub invariant_of-result : goal.invariant_of-result
invariant_of-result g c =
    let m = c.append_pages.ensures.appended.0 in
    kept_empty c.append_pages.new.pages.items m c.args.room
    (c.append_pages.ensures.appended.1 ∙ ap (λ ps. ps ++ replicate m empty_page) c.new-pages.ensures.items) (omega (arith, c.ranges.room.fits))
    (omega (arith, c.in_ok-append_pages.ensures.enough, c.div_ceil.ensures))

pub returns-clause-items : goal.returns-clause-items
returns-clause-items g c =
    let m = c.append_pages.ensures.appended.0 in
    items_empty c.append_pages.new.pages.items m
    (c.append_pages.ensures.appended.1 ∙ ap (λ ps. ps ++ replicate m empty_page) c.new-pages.ensures.items)
