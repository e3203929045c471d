use Rattle.std.proofs.Common.{◌∙◌}
use Rattle.dl_pages.proofs.PagedLemmas.{in_pages, in_page, item_here}
use Rattle.dl_pages.proofs.paged.Paged.get.Goals as goal

pub get-page-requires : goal.get-page-requires
get-page-requires g c = in_pages c.self.inside.pages.items c.self.inside.len c.self.inside.spare c.args.self.now c.self.invariant.kept c.self.view_is c.args.at c.requires

pub at-requires : goal.at-requires
at-requires g c = in_page c.self.inside.pages.items c.self.inside.len c.self.inside.spare c.args.self.now c.self.invariant.kept c.self.view_is c.args.at c.requires c.get-page.result.now c.get-page.ensures

pub returns : goal.returns
returns g c =
    c.at.ensures
    ∙ item_here c.self.inside.pages.items c.self.inside.len c.self.inside.spare c.args.self.now c.self.invariant.kept c.self.view_is c.args.at c.requires c.get-page.result.now c.get-page.ensures c.at.result.now
