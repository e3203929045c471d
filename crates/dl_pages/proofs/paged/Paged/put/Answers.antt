use Rattle.std.proofs.Common.{◌∙◌}
use Rattle.dl_pages.proofs.NestedLemmas.{put_place, put_page, put_within, put_value, items_put, owned_put, kept_put}
use Rattle.dl_pages.proofs.paged.Paged.put.Goals as goal

pub put_in-requires-clause-owned : goal.put_in-requires-clause-owned
put_in-requires-clause-owned g c = put_place c.self.inside.pages.items c.self.inside.pages.owned c.self.inside.len c.self.inside.spare c.args.self.now c.self.invariant c.self.view_is c.args.at c.requires

pub put_in-requires-clause-page : goal.put_in-requires-clause-page
put_in-requires-clause-page g c = put_page c.self.inside.pages.items c.self.inside.pages.owned c.self.inside.len c.self.inside.spare c.args.self.now c.self.invariant c.self.view_is c.args.at c.requires

pub put_in-requires-clause-place : goal.put_in-requires-clause-place
put_in-requires-clause-place g c = put_within c.self.inside.pages.items c.self.inside.pages.owned c.self.inside.len c.self.inside.spare c.args.self.now c.self.invariant c.self.view_is c.args.at c.requires

pub invariant_of-self : goal.invariant_of-self
invariant_of-self g c =
    kept_put c.self.inside.pages.items c.self.inside.pages.owned c.self.inside.len c.self.inside.spare c.args.self.now c.self.invariant c.self.view_is c.args.at c.requires
    c.put_in.new.self.items c.args.value c.put_in.ensures.items c.put_in.new.self.owned c.put_in.ensures.owned

pub returns-clause-value : goal.returns-clause-value
returns-clause-value g c =
    c.put_in.ensures.value
    ∙ put_value c.self.inside.pages.items c.self.inside.pages.owned c.self.inside.len c.self.inside.spare c.args.self.now c.self.invariant c.self.view_is c.args.at c.requires c.put_in.result

pub returns-clause-items : goal.returns-clause-items
returns-clause-items g c =
    items_put c.self.inside.pages.items c.self.inside.pages.owned c.self.inside.len c.self.inside.spare c.args.self.now c.self.invariant c.self.view_is c.args.at c.requires
    c.put_in.new.self.items c.args.value c.put_in.ensures.items

pub returns-clause-owned : goal.returns-clause-owned
returns-clause-owned g c =
    owned_put c.self.inside.pages.items c.self.inside.pages.owned c.self.inside.len c.self.inside.spare c.args.self.now c.self.invariant c.self.view_is c.args.at c.requires
    c.put_in.new.self.items c.args.value c.put_in.ensures.items
