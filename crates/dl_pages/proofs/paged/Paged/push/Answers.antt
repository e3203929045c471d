use Rattle.dl_pages.proofs.NestedLemmas.{push_place, push_page, push_room, items_push, owned_push, kept_push}
use Rattle.dl_pages.proofs.paged.Paged.push.Goals as goal

pub push_in-requires-clause-owned : goal.push_in-requires-clause-owned
push_in-requires-clause-owned g c = push_place c.self.inside.pages.items c.self.inside.pages.owned c.self.inside.len c.self.inside.spare c.args.self.now c.self.invariant c.self.view_is c.requires

pub push_in-requires-clause-page : goal.push_in-requires-clause-page
push_in-requires-clause-page g c = push_page c.self.inside.pages.items c.self.inside.pages.owned c.self.inside.len c.self.inside.spare c.args.self.now c.self.invariant c.self.view_is c.requires

pub push_in-requires-clause-room : goal.push_in-requires-clause-room
push_in-requires-clause-room g c = push_room c.self.inside.pages.items c.self.inside.pages.owned c.self.inside.len c.self.inside.spare c.args.self.now c.self.invariant c.self.view_is c.requires

pub invariant_of-self : goal.invariant_of-self
invariant_of-self g c =
    kept_push c.self.inside.pages.items c.self.inside.pages.owned c.self.inside.len c.self.inside.spare c.args.self.now c.self.invariant c.self.view_is c.requires
    c.push_in.new.self.items c.args.value c.push_in.ensures.items c.push_in.new.self.owned c.push_in.ensures.owned

pub returns-clause-items : goal.returns-clause-items
returns-clause-items g c =
    items_push c.self.inside.pages.items c.self.inside.pages.owned c.self.inside.len c.self.inside.spare c.args.self.now c.self.invariant c.self.view_is c.requires
    c.push_in.new.self.items c.args.value c.push_in.ensures.items

pub returns-clause-owned : goal.returns-clause-owned
returns-clause-owned g c =
    owned_push c.self.inside.pages.items c.self.inside.pages.owned c.self.inside.len c.self.inside.spare c.args.self.now c.self.invariant c.self.view_is c.requires
    c.push_in.new.self.items c.args.value c.push_in.ensures.items
