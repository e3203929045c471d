use Rattle.std.proofs.Common.{◌∙◌, arith}
use Rattle.dl_pages.proofs.PagedLemmas.{in_pages, in_page, item_here}
use Rattle.dl_pages.proofs.pages.Pages.get.Goals as goal

pub index-page-requires : goal.index-page-requires
index-page-requires g c =
    omega (arith, c.self.inside.pages.ok.0, in_pages c.self.inside.pages.items c.self.inside.len c.self.inside.spare c.args.self.now c.self.invariant c.self.view_is c.args.at c.requires)

pub at-requires : goal.at-requires
at-requires g c =
    in_page c.self.inside.pages.items c.self.inside.len c.self.inside.spare c.args.self.now c.self.invariant c.self.view_is c.args.at c.requires
    c.index-page.result.now c.index-page.ensures

pub returns : goal.returns
returns g c =
    c.at.ensures
    ∙ item_here c.self.inside.pages.items c.self.inside.len c.self.inside.spare c.args.self.now c.self.invariant c.self.view_is c.args.at c.requires
    c.index-page.result.now c.index-page.ensures c.at.result.now
