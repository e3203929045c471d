use Rattle.std.proofs.lemmas.Result.{on_ok_weaker}
use Rattle.dl_pages.proofs.PagedLemmas.{in_pages, keeps_owned, owned_after}
use Rattle.dl_pages.proofs.pages.Pages.own.Goals as goal

pub own_page-requires-clause-within : goal.own_page-requires-clause-within
own_page-requires-clause-within g c = in_pages c.self.inside.pages.items c.self.inside.len c.self.inside.spare c.args.self.now c.self.invariant c.self.view_is c.args.at c.requires.within

pub returns-clause-owned : goal.returns-clause-owned
returns-clause-owned g c = keeps_owned c.self.inside.pages.items c.self.inside.len c.self.inside.spare c.args.self.now c.self.invariant c.self.view_is c.own_page.new.pages.items c.self.inside.spare c.own_page.ensures.kept

pub returns-clause-here : goal.returns-clause-here
returns-clause-here g c =
    on_ok_weaker c.own_page.result (owned_after c.self.inside.pages.items c.self.inside.len c.self.inside.spare c.args.self.now c.self.invariant c.self.view_is c.own_page.new.pages.items c.own_page.ensures.kept c.args.at c.requires.within) c.own_page.ensures.owned
